-- A clock's instants, the newest first.
--   Instant        the pairs of a row, and true time then
--   Rising         true time never falls
--   present        true time at the newest instant
--   after          a clock after the instants
--   NothingHeard   no pair of a row is heard
use Rattle.std.specs.Prelude.{ℕ, ◌<◌, ◌≤◌, List, [], ◌∷◌}
use Rattle.rows.specs.declared.pair.Pair.{Pair}
use Rattle.rows.specs.Limits.{channels, pair_on}

-- no program knows the time, and no clock stores it
pub record Instant : Type 0 where
  pub pairs : List Pair
  pub time : ℕ

-- 0 before the first instant
abbrev pub present : List Instant → ℕ
present [] = 0
present (i ∷ before) = i.time

-- the times 120, 110, 110, the newest first
abbrev pub Rising : List Instant → Type 0
Rising [] = Unit {0}
Rising (i ∷ before) = (present before ≤ i.time) × Rising before

abbrev pub after : {C : Type 0} → (C → List Pair → C) → C → List Instant → C
after next made [] = made
after next made (i ∷ before) = next (after next made before) i.pairs

-- as in a row in which nothing is set: (1, 0) on every channel
abbrev pub NothingHeard : List Pair → Type 0
NothingHeard pairs = (channel : ℕ) → channel < channels → (pair_on pairs channel).second < (pair_on pairs channel).first
