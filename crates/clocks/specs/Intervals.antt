-- Intervals of times, and whether one holds a time.
--   Reading    what a clock answers: an interval, or a fault
--   span       the interval from one number to another, where there is one
--   span_or    the same, or a fault
--   passed_up  a reading as the layer above hands it on
--   width      how far its ends are apart
--   within     whether it holds a time
--   Holds      a reading holds a time, unless it is a fault
--   Unread     it is a fault
use Rattle.std.specs.Prelude.{ℕ, ◌-◌, ◌≤◌, Bool, ◌&&◌, Some, None, Ok, Err, Option, Result, nat_le}
use Rattle.std.proofs.Math.Decide.{dec_le}
use Rattle.rows.specs.declared.fault.Fault.{Fault}
use Rattle.rows.specs.Faults.{deeper}
use Rattle.rows.specs.Limits.{last_time}
use Rattle.clocks.specs.declared.interval.Interval.{Interval}

abbrev pub Reading : Type 0
Reading = Result Interval Fault

-- from 7 to 9; none from 9 to 7, and none that ends behind the last time
abbrev pub span : ℕ → ℕ → Option Interval
span earliest latest = elim (dec_le earliest latest) [ yes p ↦ elim (dec_le latest last_time) [ yes q ↦ Some (record { earliest = earliest; latest = latest; ordered = p; within = q }) | no q ↦ None ] | no p ↦ None ]

abbrev pub span_or : ℕ → ℕ → Fault → Reading
span_or earliest latest fault = elim (span earliest latest) [ Some i ↦ Ok i | None ↦ Err fault ]

-- a fault is one deeper there
abbrev pub passed_up : Reading → Reading
passed_up (Ok i) = Ok i
passed_up (Err fault) = Err (deeper fault)

abbrev pub width : Interval → ℕ
width i = i.latest - i.earliest

-- both ends included: [7, 9] holds 7, 8 and 9
abbrev pub within : Interval → ℕ → Bool
within i time = nat_le i.earliest time && nat_le time i.latest

abbrev pub Holds : Reading → ℕ → Type 0
Holds (Ok i) time = (i.earliest ≤ time) × (time ≤ i.latest)
Holds (Err fault) time = Unit {0}

abbrev pub Unread : Reading → Type 0
Unread (Ok i) = ⊥
Unread (Err fault) = Unit {0}
