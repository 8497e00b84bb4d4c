-- Where times cover what is shared, what is worked out from them is what fusing means, and nothing else is.
--   Covers  for each time that is shared, one of some times further out is shared by as many
--   Bound   one of some times, shared by enough, and the outermost of all that enough share
use Rattle.std.proofs.Common.{◌≡◌, ℕ, zero, suc, ◌≤◌, Bool, true, false, cond, leb, List, ◌∷◌, get_or, map, filter, fold, Some, None, Ok, Err, Option, sym, refl, ap, ◌∙◌, inl, inr, arith}
use Rattle.std.specs.List.{All, Contains}
use Rattle.std.proofs.lemmas.Bool.{leb-true, leb-false, le-leb, cases_lt}
use Rattle.std.proofs.lemmas.List.{length-map, get_or-map}
use Rattle.std.proofs.lemmas.List.Elements.{All-contains}
use Rattle.std.proofs.lemmas.List.Sums.{get_or-le-sum_by}
use Rattle.rows.specs.Limits.{last_time}
use Rattle.clocks.specs.declared.interval.Interval.{Interval}
use Rattle.clocks.specs.Intervals.{Reading, span, span_or}
use Rattle.clocks.specs.Lemmas.Spans.{spanning, spanned, backwards, far, span_is}
use Rattle.fuses.specs.Sharing.{Most, too_few, Fuses, most_shared, lowest_shared, highest_shared, fused_from}
use Rattle.fuses.specs.Lemmas.Outermost.{Side, Before, After, low, high, folded, outermost}

-- 100, 105 and 300 cover [100, 110], [105, 115], [300, 310] from before: two share 108, and two share 105
abbrev pub Covers : (ℕ → ℕ) → (ℕ → ℕ → Type 0) → List ℕ → Type 0
Covers shares Outer times = (time : ℕ) → 1 ≤ shares time → (at : ℕ) × Contains times at × Outer at time × (shares time ≤ shares at)

most_right : (shares : ℕ → ℕ) (Outer : ℕ → ℕ → Type 0) (times : List ℕ) → Covers shares Outer times → Most shares (most_shared shares times)
most_right shares Outer times covers = record { attained = attained (folded high 0 (map shares times)).0; never_more = never_more }
  where
    most : ℕ
    most = most_shared shares times

    never_more : (time : ℕ) → shares time ≤ most
    never_more time = elim (cases_lt (shares time) 1) [
      | inl none ↦ omega arith
      | inr some ↦
          let c = covers time some in
          let least = (folded high 0 (map shares times)).1 (suc c.1.0) 0 (omega (arith, c.1.1, length-map times shares)) in
          omega (arith, c.3, get_or-map shares times c.1.0 c.0 0 c.1.1, ap shares c.1.2)
    ]

    attained : Contains (0 ∷ map shares times) most → (time : ℕ) × (shares time ≡ most)
    attained (zero, h, e) = (0, let least = never_more 0 in omega arith)
    attained (suc k, h, e) = (get_or times k 0, sym (get_or-map shares times k 0 most (omega (arith, length-map times shares))) ∙ e)

module _ (need : ℕ) (shares : ℕ → ℕ) (one : 1 ≤ need) where
  -- of those three and need 2, from before: 105
  record Bound (Outer : ℕ → ℕ → Type 0) (times : List ℕ) (at : ℕ) : Type 0 where
    among : Contains times at
    shared : need ≤ shares at
    outer : (time : ℕ) → need ≤ shares time → Outer at time

  bound : {Outer : ℕ → ℕ → Type 0} {outer : ℕ → ℕ → ℕ} → Side Outer outer → (start : ℕ) (times : List ℕ) → All (λ time. outer start time ≡ time) times → Covers shares Outer times → (time : ℕ) × (need ≤ shares time) → Bound Outer times (fold outer start (filter (λ time. leb need (shares time)) times))
  bound {Outer = Outer} side start times inner covers some =
      let enough : ℕ → Bool = λ time. leb need (shares time) in
      let near : (time : ℕ) → need ≤ shares time → (at : ℕ) × Contains times at × Outer at time × (enough at ≡ true) = λ time h. let c = covers time (omega arith) in (c.0, c.1, c.2, le-leb need _ (omega (arith, c.3))) in
      let c = near some.0 some.1 in
      let counted = rw (c.1.2, c.3) at (get_or-le-sum_by (λ time. cond (enough time) 1 0) times c.1.0 c.0 c.1.1) in
      let found = outermost side enough start times inner counted in
      record {
        among = found.among;
        shared = leb-true need _ found.pass;
        outer = λ time h. let c = near time h in side.chain _ c.0 time (found.first c.0 c.1 c.3) c.2;
      }

  module _ (begins ends : List ℕ) (begins_cover : Covers shares Before begins) (ends_cover : Covers shares After ends) (near_begins : All (λ time. time ≤ last_time) begins) (near_ends : All (λ time. time ≤ last_time) ends) where
    abbrev lowest : ℕ
    lowest = lowest_shared need shares begins

    abbrev highest : ℕ
    highest = highest_shared need shares ends

    abbrev most : ℕ
    most = most_shared shares begins

    spans : (time : ℕ) × (need ≤ shares time) → Fuses need shares (span_or lowest highest (too_few most))
    spans some =
        let first = bound low last_time begins (λ k d h. let near = near_begins k d h in omega arith) begins_cover some in
        let last = bound high 0 ends (λ k d h. omega arith) ends_cover some in
        elim (spanning lowest highest) as (λ o _. Fuses need shares (elim o as (λ _. Reading) [ Some i ↦ Ok i | None ↦ Err (too_few most) ])) [
          | spanned p q ↦ record { some = some; all = λ time h. (first.outer time h, last.outer time h); none_smaller = λ other all. ((all lowest first.shared).0, (all highest last.shared).1) }
          | backwards h ↦ absurd (let a = first.outer some.0 some.1 in let b = last.outer some.0 some.1 in omega arith)
          | far h ↦ absurd (let near = All-contains (λ time. time ≤ last_time) ends highest near_ends last.among in omega arith)
        ]

    pub times_fuse : Fuses need shares (fused_from need shares begins ends)
    times_fuse = by (leb need most) refl
      where
        right : Most shares most
        right = most_right shares Before begins begins_cover

        by : (b : Bool) → leb need most ≡ b → Fuses need shares (cond b (span_or lowest highest (too_few most)) (Err (too_few most)))
        by true e = spans (right.attained.0, omega (arith, leb-true need most e, right.attained.1))
        by false e = record { most = most; at_most = right; short = leb-false need most e; said = refl }

same_interval : (i j : Interval) → i.earliest ≡ j.earliest → i.latest ≡ j.latest → ◌≡◌ {A = Reading} (Ok i) (Ok j)
same_interval i j p q =
    let back : ◌≡◌ {A = Option Interval} (Some i) (Some j) = span_is i.earliest i.latest i.ordered i.within ∙ (λ k. span (p k) (q k)) ∙ sym (span_is j.earliest j.latest j.ordered j.within) in
    cc

-- what is shared fuses to one thing only
pub only : (need : ℕ) (shares : ℕ → ℕ) (r s : Reading) → Fuses need shares r → Fuses need shares s → r ≡ s
only need shares (Ok i) (Ok j) f g =
    let a = f.none_smaller j g.all in
    let b = g.none_smaller i f.all in
    same_interval i j (omega arith) (omega arith)
only need shares (Ok i) (Err fault) f g = absurd (let most = g.at_most.never_more f.some.0 in omega (arith, f.some.1, g.short))
only need shares (Err fault) (Ok j) f g = absurd (let most = f.at_most.never_more g.some.0 in omega (arith, g.some.1, f.short))
only need shares (Err fault) (Err other) f g =
    let a = f.at_most.never_more g.at_most.attained.0 in
    let b = g.at_most.never_more f.at_most.attained.0 in
    let same : f.most ≡ g.most = omega (arith, f.at_most.attained.1, g.at_most.attained.1) in
    ap (λ x. Err x) (f.said ∙ ap too_few same ∙ sym g.said)
