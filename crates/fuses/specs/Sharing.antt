-- What readings share, by its meaning and worked out.
--   intervals_of    the readings among what members answered
--   sharing         how many of the readings hold a time
--   HoldsAll        an interval holds every time that enough readings share
--   Smallest        the smallest such interval
--   Most            the most readings that share one time
--   too_few         the fault that too few meet
--   MeetTooFew      that fault, and that it is right
--   Fuses           what readings fuse to: that interval, or that fault
--   most_shared     the most readings that share one of these times
--   lowest_shared   the lowest of these times that enough readings share
--   highest_shared  the highest of them
--   fused_from      what readings fuse to that begin and end at these times
--   fused           what readings fuse to, worked out
--   shared_by       how many share a time, by where they begin and where they end
use Rattle.std.specs.Prelude.{◌≡◌, ℕ, ◌+◌, ◌-◌, ◌<◌, ◌≤◌, min, max, cond, List, [], ◌∷◌, map, filter, fold, count_by, Ok, Err, nat_le, nat_lt}
use Rattle.rows.specs.declared.fault.Fault.{Fault}
use Rattle.rows.specs.declared.fault.Cause.TheVariants.{TooFew}
use Rattle.rows.specs.Faults.{arising}
use Rattle.rows.specs.Limits.{last_time}
use Rattle.clocks.specs.declared.interval.Interval.{Interval}
use Rattle.clocks.specs.Intervals.{Reading, span_or, within, Holds}

-- a member without a reading counts for no time
abbrev pub intervals_of : List Reading → List Interval
intervals_of [] = []
intervals_of (Ok i ∷ readings) = i ∷ intervals_of readings
intervals_of (Err fault ∷ readings) = intervals_of readings

-- 108 is held by two of [100, 110], [105, 115], [300, 310]
abbrev pub sharing : List Interval → ℕ → ℕ
sharing [] time = 0
sharing (i ∷ is) time = cond (within i time) 1 0 + sharing is time

-- shares says of each time how many readings share it
abbrev pub HoldsAll : ℕ → (ℕ → ℕ) → Interval → Type 0
HoldsAll need shares i = (time : ℕ) → need ≤ shares time → Holds (Ok i) time

-- of those three and need 2: [105, 110]
pub record Smallest (need : ℕ) (shares : ℕ → ℕ) (i : Interval) : Type 0 where
  pub some : (time : ℕ) × (need ≤ shares time)
  pub all : HoldsAll need shares i
  pub none_smaller : (other : Interval) → HoldsAll need shares other → (other.earliest ≤ i.earliest) × (i.latest ≤ other.latest)

-- of [10, 20] and [21, 30]: 1
pub record Most (shares : ℕ → ℕ) (most : ℕ) : Type 0 where
  pub attained : (time : ℕ) × (shares time ≡ most)
  pub never_more : (time : ℕ) → shares time ≤ most

abbrev pub too_few : ℕ → Fault
too_few most = arising TooFew most

-- its place is the most readings that share one time
pub record MeetTooFew (need : ℕ) (shares : ℕ → ℕ) (fault : Fault) : Type 0 where
  pub most : ℕ
  pub at_most : Most shares most
  pub short : most < need
  pub said : fault ≡ too_few most

abbrev pub Fuses : ℕ → (ℕ → ℕ) → Reading → Type 0
Fuses need shares (Ok i) = Smallest need shares i
Fuses need shares (Err fault) = MeetTooFew need shares fault

-- of those three, at 100, 105 and 300: 2
abbrev pub most_shared : (ℕ → ℕ) → List ℕ → ℕ
most_shared shares times = fold max 0 (map shares times)

-- of those three and need 2, at 100, 105 and 300: 105; the last time where none has enough
abbrev pub lowest_shared : ℕ → (ℕ → ℕ) → List ℕ → ℕ
lowest_shared need shares times = fold min last_time (filter (λ time. nat_le need (shares time)) times)

-- of those three and need 2, at 110, 115 and 310: 110; 0 where none has enough
abbrev pub highest_shared : ℕ → (ℕ → ℕ) → List ℕ → ℕ
highest_shared need shares times = fold max 0 (filter (λ time. nat_le need (shares time)) times)

-- of those three, at their beginnings and ends: [105, 110] for need 2, and that too few meet, at most 2, for need 3
abbrev pub fused_from : ℕ → (ℕ → ℕ) → List ℕ → List ℕ → Reading
fused_from need shares begins ends =
    cond (nat_le need (most_shared shares begins))
    (span_or (lowest_shared need shares begins) (highest_shared need shares ends) (too_few (most_shared shares begins)))
    (Err (too_few (most_shared shares begins)))

-- at the beginnings and ends of the readings themselves
abbrev pub fused : ℕ → List Interval → Reading
fused need is = fused_from need (sharing is) (map (λ i. i.earliest) is) (map (λ i. i.latest) is)

-- those that have begun by then, less those that have ended before: of those three, at 108, two less none
abbrev pub shared_by : List ℕ → List ℕ → ℕ → ℕ
shared_by begins ends time = count_by (λ n. nat_le n time) begins - count_by (λ n. nat_lt n time) ends
