-- A member adds the ends of its reading, if it has one.
use Rattle.std.proofs.Common.{sym, ◌∙◌, arith}
use Rattle.fuses.specs.Lemmas.Asked.{asked_read, asked_unread}
use Rattle.fuses.proofs.fuse.gather.gather.Goals as goal

pub loop-member-preserved-in_default : goal.loop-member-preserved-in_default
loop-member-preserved-in_default g c =
    let so = c.loop-member.invariant in
    let reading = g.B.Bank.reading c.args.bank.now in
    let none = sym c.query.ensures ∙ c.in_default.is in
    record {
      begins = asked_unread (λ i. i.earliest) reading c.loop-member.member c.in_default.field-0 _ so.begins none;
      ends = asked_unread (λ i. i.latest) reading c.loop-member.member c.in_default.field-0 _ so.ends none;
      begins_fit = omega arith;
      ends_fit = omega arith;
    }

pub loop-member-preserved : goal.loop-member-preserved
loop-member-preserved g c =
    let so = c.loop-member.invariant in
    let reading = g.B.Bank.reading c.args.bank.now in
    let one = sym c.query.ensures ∙ c.in-Ok.is in
    let i = c.in-Ok.reading in
    record {
      begins = c.push.ensures.items ∙ asked_read (λ x. x.earliest) reading c.loop-member.member i _ so.begins one;
      ends = c.push-in-loop-member.ensures.items ∙ asked_read (λ x. x.latest) reading c.loop-member.member i _ so.ends one;
      begins_fit = omega arith;
      ends_fit = omega arith;
    }
