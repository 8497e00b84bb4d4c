-- What readings share, counted from where they begin and where they end.
--   BoundsOf        these are where the readings begin and where they end
--   HasBounds       and these bounds have them
--   without_ended   the ends without the first, if it is before the time
--   stretched       from the first beginning to the last end, with one of each more
use Rattle.std.specs.Prelude.{ℕ, cond, List, [], ◌∷◌, Some, None, Option, map, nat_lt}
use Rattle.std.specs.List.Sorted.{IsPermutation}
use Rattle.clocks.specs.declared.interval.Interval.{Interval}
use Rattle.fuses.specs.declared.fuse.bounds.Bounds.{Bounds}

-- in any order: of [100, 110], [105, 115], [300, 310] the ends may stand as 310, 110, 115
pub record BoundsOf (is : List Interval) (begins ends : List ℕ) : Type 0 where
  pub begun : IsPermutation (map (λ i. i.earliest) is) begins
  pub ended : IsPermutation (map (λ i. i.latest) is) ends

-- those three readings begin at 100, 105, 300 and end at 110, 115, 310
abbrev pub HasBounds : List Interval → Bounds → Type 0
HasBounds is bounds = BoundsOf is bounds.begins.times.now bounds.ends.times.now

-- of the ends 110, 115, 310 at the time 111: 115, 310; at 110 all three
abbrev pub without_ended : List ℕ → ℕ → List ℕ
without_ended [] time = []
without_ended (end ∷ ends) time = cond (nat_lt end time) ends (end ∷ ends)

-- from none at 105 and 110: (105, 110); from there at 107 and 120: (105, 120)
abbrev pub stretched : Option (ℕ × ℕ) → ℕ → ℕ → ℕ × ℕ
stretched None begin end = (begin, end)
stretched (Some span) begin end = (span.0, end)
