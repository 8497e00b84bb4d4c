-- A reference keeps the meaning of a clock.
use Rattle.std.specs.Prelude.{◌≡◌, ℕ, Bool, true, List, [], ◌∷◌, Ok, Err, refl}
use Rattle.std.proofs.Common.{arith}
use Rattle.clocks.specs.declared.reference.Reference.{Reference}
use Rattle.clocks.specs.History.{Instant, after}
use Rattle.clocks.specs.Intervals.{Reading, within, Holds}
use Rattle.clocks.specs.Meaning.{Keeps}
use Rattle.clocks.specs.References.{reference_fresh, reference_next, reference_truth}

truth_holds : (r : Reading) (time : ℕ) → elim r as (λ _. Bool) [ Ok i ↦ within i time | Err fault ↦ true ] ≡ true → Holds r time
truth_holds r time e = grind arith

same_channel : (made : Reference) (before : List Instant) → (after reference_next made before).channel ≡ made.channel
same_channel made [] = refl
same_channel made (i ∷ before) = same_channel made before

pub reference_keeps : (made : Reference) → Keeps reference_fresh reference_next (λ r. r.reading) reference_truth made
reference_keeps made = grind (arith, same_channel, truth_holds)
