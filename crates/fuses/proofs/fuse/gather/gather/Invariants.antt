-- The ends found are those of the members asked.
use Rattle.std.proofs.Common.{◌≡◌, ◌≤◌, map, length}
use Rattle.fuses.specs.Lemmas.Asked.{first_intervals}
use Rattle.fuses.proofs.fuse.gather.gather.Given as goal

abbrev pub invariant-loop-member : goal.invariant-loop-member
invariant-loop-member g l = record {
  begins : l.begins.items ≡ map (λ i. i.earliest) (first_intervals (g.B.Bank.reading l.bank) l.member);
  ends : l.ends.items ≡ map (λ i. i.latest) (first_intervals (g.B.Bank.reading l.bank) l.member);
  begins_fit : length l.begins.items ≤ l.member;
  ends_fit : length l.ends.items ≤ l.member;
}
