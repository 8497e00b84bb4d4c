-- A base, and the own interval that it gives at a count.
--   count_on      the count on a channel, if it carries one: a pair of equal numbers
--   million       what the parts of a rate are parts of
--   drift_over    how far a count may have run off while it grew so much
--   own_interval  the base's interval, moved by the count's growth and widened by its drift
--   own_at        the own interval, unless the base is lost
--   based_on      the base that an adopted interval makes, if a count was heard
--   moved_to      the same base, with the count that was heard last
--   growth_to     how much the count has grown since it was heard last
use Rattle.std.specs.Prelude.{ℕ, ◌+◌, ◌-◌, ◌*◌, ◌/◌, cond, List, Some, None, Option, ◌==◌, nat_lt}
use Rattle.rows.specs.declared.pair.Pair.{Pair}
use Rattle.rows.specs.Limits.{pair_on}
use Rattle.clocks.specs.declared.interval.Interval.{Interval}
use Rattle.clocks.specs.Intervals.{span}
use Rattle.holdovers.specs.declared.base.Base.{Base}

-- the pair (40, 40) is the count 40; (40, 50) and (1, 0) are none
abbrev pub count_on : List Pair → ℕ → Option ℕ
count_on pairs channel = cond ((pair_on pairs channel).first == (pair_on pairs channel).second) (Some (pair_on pairs channel).first) None

abbrev pub million : ℕ
million = 1000000

-- rounded down: 200 parts per million of 4999 are 0, and of 5000 are 1
abbrev pub drift_over : ℕ → ℕ → ℕ
drift_over rate grown = rate * grown / million

-- at rate 200, the base [7, 9] from count 0 gives [5006, 5008] at 4999, and [5006, 5010] at 5000
abbrev pub own_interval : ℕ → Base → ℕ → Option Interval
own_interval rate base count =
    let grown = count - base.origin in
    span (base.earliest + grown - drift_over rate grown) (base.latest + grown + drift_over rate grown)

-- none without a base, without a count, at a count below the last one, or where it ends behind the last time
abbrev pub own_at : ℕ → Option Base → Option ℕ → Option Interval
own_at rate (Some base) (Some count) = cond (nat_lt count base.last) None (own_interval rate base count)
own_at rate (Some base) None = None
own_at rate None heard = None

-- [7, 9] at count 40 goes on from there; without a count there is no base
abbrev pub based_on : Interval → Option ℕ → Option Base
based_on i (Some count) = Some (record { earliest = i.earliest; latest = i.latest; origin = count; last = count })
based_on i None = None

-- the interval and the count that it was adopted at stay, so that the drift is rounded once
abbrev pub moved_to : Option Base → Option ℕ → Option Base
moved_to (Some base) (Some count) = Some (record { earliest = base.earliest; latest = base.latest; origin = base.origin; last = count })
moved_to (Some base) None = None
moved_to None heard = None

-- from a last count of 40 to 70: 30
abbrev pub growth_to : Option Base → Option ℕ → ℕ
growth_to (Some base) (Some count) = count - base.last
growth_to (Some base) None = 0
growth_to None heard = 0
