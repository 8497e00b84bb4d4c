-- What a clock and a bank of clocks mean, and what their makers show.
--   Keeps          a clock, made so, keeps the meaning of a clock
--   no_member      what a bank answers of a member that it has not
--   KeepsMembers   every member of a bank keeps the meaning of a clock
use Rattle.std.specs.Prelude.{◌≡◌, ℕ, ◌≤◌, Bool, true, List, [], ◌∷◌, Err}
use Rattle.rows.specs.declared.fault.Fault.{Fault}
use Rattle.rows.specs.declared.fault.Cause.TheVariants.{Unheard}
use Rattle.rows.specs.declared.pair.Pair.{Pair}
use Rattle.rows.specs.Faults.{arising}
use Rattle.rows.specs.Limits.{most_members}
use Rattle.clocks.specs.Intervals.{Reading, Holds, Unread}
use Rattle.clocks.specs.History.{Instant, Rising, after, NothingHeard}

-- fresh, the next state after a row, the reading now, and the truth after instants, of a clock as it was made
pub record Keeps {C : Type 0} (fresh : C → C) (next : C → List Pair → C) (reading : C → Reading) (truth : C → List Instant → Bool) (made : C) : Type 0 where
  -- while true time never falls, a true clock that reads [e, l] has e ≤ true time ≤ l
  pub holds : (i : Instant) (before : List Instant) → Rising (i ∷ before) → truth (fresh made) (i ∷ before) ≡ true → Holds (reading (after next (fresh made) (i ∷ before))) i.time
  -- a fresh clock is true
  pub starts_true : truth (fresh made) [] ≡ true
  -- and has no reading
  pub starts_unread : Unread (reading (fresh made))
  -- its fault is the one that a row gives in which nothing is heard
  pub starts_unheard : (pairs : List Pair) → NothingHeard pairs → reading (next (fresh made) pairs) ≡ reading (fresh made)
  -- made fresh, nothing is left of the rows before
  pub forgets : (pairs : List Pair) → fresh (next made pairs) ≡ fresh made
  pub settles : fresh (fresh made) ≡ fresh made

-- unheard, and its place is the number that names no member
abbrev pub no_member : ℕ → Fault
no_member member = arising Unheard member

pub record KeepsMembers {B : Type 0} (size : B → ℕ) (fresh : B → B) (next : B → List Pair → B) (reading : B → ℕ → Reading) (truth : B → ℕ → List Instant → Bool) : Type 0 where
  pub some : (b : B) → 1 ≤ size b
  pub few : (b : B) → size b ≤ most_members
  -- the number of members never changes
  pub fresh_size : (b : B) → size (fresh b) ≡ size b
  pub next_size : (b : B) (pairs : List Pair) → size (next b pairs) ≡ size b
  pub each : (b : B) (member : ℕ) → Keeps fresh next (λ x. reading x member) (λ x. truth x member) b
  pub not_reached : (b : B) (member : ℕ) → size b ≤ member → reading b member ≡ Err (no_member member)
