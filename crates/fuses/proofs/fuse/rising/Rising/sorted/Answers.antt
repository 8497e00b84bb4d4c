-- A sort leaves as many, and they rise.
use Rattle.std.proofs.Common.{arith}
use Rattle.std.proofs.lemmas.List.Sorted.{IsNonDecreasingBy-from_sort, length_permutation}
use Rattle.fuses.proofs.fuse.rising.Rising.sorted.Goals as goal

pub invariant_of-result : goal.invariant_of-result
invariant_of-result c = record { few = omega (arith, c.requires, length_permutation _ _ c.sort_unstable.ensures.permutation); rising = IsNonDecreasingBy-from_sort (λ n. n) _ c.sort_unstable.ensures.sorted }
