-- One clock is a bank of one, and two banks make a bank.
--   of_member     what a bank of so many answers of a member, where it has it
--   single_*      a bank of one
--   joined_*      the first bank's members, then the second's
--   Joins         two banks, their members made fresh, make this bank
use Rattle.std.specs.Prelude.{◌≡◌, ℕ, ◌+◌, ◌-◌, min, Bool, true, cond, List, Err, nat_lt}
use Rattle.rows.specs.declared.pair.Pair.{Pair}
use Rattle.rows.specs.Limits.{most_members}
use Rattle.clocks.specs.declared.clock.Clock.{Ghosts as Clock}
use Rattle.clocks.specs.declared.bank.Bank.{Ghosts as Bank}
use Rattle.clocks.specs.declared.single.Single.{Single}
use Rattle.clocks.specs.declared.joined.Joined.{Joined}
use Rattle.clocks.specs.History.{Instant}
use Rattle.clocks.specs.Intervals.{Reading}
use Rattle.clocks.specs.Meaning.{no_member}

abbrev pub of_member : ℕ → ℕ → Reading → Reading
of_member size member reading = cond (nat_lt member size) reading (Err (no_member member))

module _ {C : Type 0} (clock : Clock C) where
  abbrev pub single_made : C → Single C
  single_made c = record { clock = clock.fresh c }

  abbrev pub single_next : Single C → List Pair → Single C
  single_next s pairs = record { clock = clock.next s.clock pairs }

  abbrev pub single_reading : Single C → ℕ → Reading
  single_reading s member = of_member 1 member (clock.reading s.clock)

  abbrev pub single_truth : Single C → ℕ → List Instant → Bool
  single_truth s member is = cond (nat_lt member 1) (clock.truth s.clock is) true

module _ {A B : Type 0} (one : Bank A) (two : Bank B) where
  abbrev pub joined_fresh : Joined A B → Joined A B
  joined_fresh j = record { first = one.fresh j.first; second = two.fresh j.second; split = j.split; count = j.count; some = j.some; few = j.few }

  abbrev pub joined_next : Joined A B → List Pair → Joined A B
  joined_next j pairs = record { first = one.next j.first pairs; second = two.next j.second pairs; split = j.split; count = j.count; some = j.some; few = j.few }

  -- of 3 and 2 members, 3 is the second's 0
  abbrev pub joined_reading : Joined A B → ℕ → Reading
  joined_reading j member = of_member j.count member (cond (nat_lt member j.split) (one.reading j.first member) (two.reading j.second (member - j.split)))

  abbrev pub joined_truth : Joined A B → ℕ → List Instant → Bool
  joined_truth j member is = cond (nat_lt member j.count) (cond (nat_lt member j.split) (one.truth j.first member is) (two.truth j.second (member - j.split) is)) true

  -- 200 and 100 members make 255
  pub record Joins (a : A) (b : B) (j : Joined A B) : Type 0 where
    pub first_fresh : j.first ≡ one.fresh a
    pub second_fresh : j.second ≡ two.fresh b
    pub split_at : j.split ≡ one.size a
    pub all : j.count ≡ min (one.size a + two.size b) most_members
