-- A bank of one, and two banks joined, keep the meaning of their members.
use Rattle.std.proofs.Common.{◌≡◌, ◌-◌, List, [], ◌∷◌, refl, arith}
use Rattle.clocks.specs.declared.clock.Clock.{Ghosts as Clock}
use Rattle.clocks.specs.declared.bank.Bank.{Ghosts as Bank}
use Rattle.clocks.specs.declared.joined.Joined.{Joined}
use Rattle.clocks.specs.Banks.{single_made, single_next, single_reading, single_truth, joined_fresh, joined_next, joined_reading, joined_truth}
use Rattle.clocks.specs.History.{Instant, after}
use Rattle.clocks.specs.Meaning.{Keeps, KeepsMembers}
use Rattle.clocks.specs.Lemmas.Following.{follows}

module _ {C : Type 0} (clock : Clock C) (keeps : (made : C) → Keeps clock.fresh clock.next clock.reading clock.truth made) where
  pub single_keeps : KeepsMembers (λ s. 1) (λ s. single_made clock s.clock) (single_next clock) (single_reading clock) (single_truth clock)
  single_keeps = record {
    some = λ s. omega arith;
    few = λ s. omega arith;
    fresh_size = λ s. refl;
    next_size = λ s pairs. refl;
    each = λ made member. grind (arith, follows (λ s. s.clock) (single_next clock) clock.next (λ s pairs. refl), keeps made.clock);
    not_reached = λ s member h. grind arith;
  }

module _ {A B : Type 0} (one : Bank A) (two : Bank B) (keeps_one : KeepsMembers one.size one.fresh one.next one.reading one.truth) (keeps_two : KeepsMembers two.size two.fresh two.next two.reading two.truth) where
  joined_after : (j : Joined A B) (is : List Instant) → after (joined_next one two) j is ≡ record { first = after one.next j.first is; second = after two.next j.second is; split = j.split; count = j.count; some = j.some; few = j.few }
  joined_after j [] = refl
  joined_after j (i ∷ before) = rw (joined_after j before)

  pub joined_keeps : KeepsMembers (λ j. j.count) (joined_fresh one two) (joined_next one two) (joined_reading one two) (joined_truth one two)
  joined_keeps = record {
    some = λ j. j.some;
    few = λ j. j.few;
    fresh_size = λ j. refl;
    next_size = λ j pairs. refl;
    each = λ made member. grind (arith, joined_after, keeps_one.each made.first member, keeps_two.each made.second (member - made.split));
    not_reached = λ j member h. grind arith;
  }
