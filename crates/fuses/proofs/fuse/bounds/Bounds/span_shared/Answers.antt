-- The first pair that meets gives the lowest time that enough share, and the last one the highest.
use Rattle.std.proofs.Common.{◌≡◌, length, ◌⊎◌, inl, inr, sym, ap, ◌∙◌, rules, arith}
use Rattle.std.proofs.lemmas.Bool.{leb-true, leb-false}
use Rattle.std.proofs.lemmas.List.{length-append}
use Rattle.fuses.proofs.Bounds.{paired_met, paired_apart, few_begin, none_spanned, spans_all}
use Rattle.fuses.proofs.fuse.bounds.Bounds.span_shared.Goals as goal

pub returns-in_err-begun : goal.returns-in_err-begun
returns-in_err-begun c = λ is of. rw c.from_residual.ensures (few_begin is _ _ of c.args.self.now.begins.rising c.args.self.now.ends.rising c.args.need c.requires c.in_err-begun.ensures)

pub loop-begin-preserved-then-meets : goal.loop-begin-preserved-then-meets
loop-begin-preserved-then-meets c =
    let steps = c.in-Some.ensures.steps in
    rw c.stretched.ensures (paired_met c.loop-begin.invariant steps.0 steps.1 (length-append c.loop-begin.yielded _) (leb-true _ _ (sym c.meets.ensures ∙ c.if-meets.true)))

pub loop-begin-preserved : goal.loop-begin-preserved
loop-begin-preserved c =
    let steps = c.in-Some.ensures.steps in
    paired_apart c.loop-begin.invariant steps.0 steps.1 (length-append c.loop-begin.yielded _) (leb-false _ _ (sym c.meets.ensures ∙ c.if-meets.false))

pub returns-in_err-lowest : goal.returns-in_err-lowest
returns-in_err-lowest c =
    let begins = c.args.self.now.begins in
    let ends = c.args.self.now.ends in
    let pairs = c.into_iter-begin-iterator.ensures.into_iter_gives in
    let cut = ap (λ z. z.a.rest.now) pairs ∙ ap (λ i. i.rest.now) c.zip-begin-items.ensures.first ∙ c.iter.ensures.rest ∙ c.in_ok-begun.ensures in
    let whole : c.into_iter-begin-iterator.result.b.rest.now ≡ ends.times.now = ap (λ z. z.b.rest.now) pairs ∙ search rules in
    let none_left = elim c.in-None.ensures.steps as (λ _. (length c.loop-begin.begin-iterator.a.rest.now ≡ 0) ⊎ (length c.loop-begin.begin-iterator.b.rest.now ≡ 0)) [ inl e ↦ inl (omega (arith, e.1)) | inr e ↦ inr (omega (arith, e.1)) ] in
    λ is of. rw c.from_residual-in_err-lowest.ensures (none_spanned is _ _ of begins.rising ends.rising c.args.need c.requires c.loop-begin.invariant cut whole none_left c.in_err-lowest.was)

pub returns : goal.returns
returns c =
    let begins = c.args.self.now.begins in
    let ends = c.args.self.now.ends in
    let pairs = c.into_iter-begin-iterator.ensures.into_iter_gives in
    let cut = ap (λ z. z.a.rest.now) pairs ∙ ap (λ i. i.rest.now) c.zip-begin-items.ensures.first ∙ c.iter.ensures.rest ∙ c.in_ok-begun.ensures in
    let whole : c.into_iter-begin-iterator.result.b.rest.now ≡ ends.times.now = ap (λ z. z.b.rest.now) pairs ∙ search rules in
    let none_left = elim c.in-None.ensures.steps as (λ _. (length c.loop-begin.begin-iterator.a.rest.now ≡ 0) ⊎ (length c.loop-begin.begin-iterator.b.rest.now ≡ 0)) [ inl e ↦ inl (omega (arith, e.1)) | inr e ↦ inr (omega (arith, e.1)) ] in
    λ is of. rw c.new.ensures (spans_all is _ _ of begins.rising ends.rising c.args.need c.requires c.loop-begin.invariant cut whole none_left _ _ c.in_ok-lowest.was)
