-- A base is anchored at a time that its interval holds, and a steady count keeps it so.
use Rattle.std.proofs.Common.{◌≡◌, ℕ, ◌+◌, ◌-◌, ◌*◌, ◌≤◌, Bool, true, ◌&&◌, Some, None, Ok, Option, arith}
use Rattle.clocks.specs.declared.interval.Interval.{Interval}
use Rattle.clocks.specs.Intervals.{Reading, Holds}
use Rattle.holdovers.specs.declared.base.Base.{Base}
use Rattle.holdovers.specs.declared.held.Held.{Held}
use Rattle.holdovers.specs.Bases.{million, own_at, based_on, moved_to, growth_to}
use Rattle.holdovers.specs.Holdovers.{choose, adopted_with, own_with, lost_with, steady}

-- true time was start when the base was made, and has since run off the count by no more than the rate allows
pub record Anchored (rate : ℕ) (base : Base) (time : ℕ) : Type 0 where
  pub start : ℕ
  pub after_earliest : base.earliest ≤ start
  pub before_latest : start ≤ base.latest
  pub counted : base.origin ≤ base.last
  pub not_late : time * million ≤ (start + (base.last - base.origin)) * million + rate * (base.last - base.origin)
  pub not_early : (start + (base.last - base.origin)) * million ≤ time * million + rate * (base.last - base.origin)

abbrev pub Anchor : ℕ → Option Base → ℕ → Type 0
Anchor rate (Some base) time = Anchored rate base time
Anchor rate None time = Unit {0}

-- what is held after an instant fits its true time
abbrev pub FitsTime : ℕ → Held → ℕ → Type 0
FitsTime rate held time = Anchor rate held.base time × Holds held.reading time

-- an adopted interval that holds true time anchors the base that it makes
based_anchor : (rate time : ℕ) (i : Interval) (heard : Option ℕ) → Holds (Ok i) time → Anchor rate (based_on i heard) time
based_anchor rate time i (Some count) h = record { start = time; after_earliest = h.0; before_latest = h.1; counted = omega arith; not_late = omega arith; not_early = omega arith }
based_anchor rate time i None h = tt

-- the drift bounds of the instants add up to the bound at the base
moved_anchor : (rate from to : ℕ) (base : Base) (count : ℕ) → base.last ≤ count → Anchored rate base from → steady rate (count - base.last) from to ≡ true → Anchor rate (moved_to (Some base) (Some count)) to
moved_anchor rate from to base count h a s = record { start = a.start; after_earliest = a.after_earliest; before_latest = a.before_latest; counted = grind arith; not_late = grind arith; not_early = grind arith }

-- an own interval, where there is one, fits true time, since times are whole numbers and the drift is rounded down
pub own_fits : (rate from to : ℕ) (base : Option Base) (heard : Option ℕ) (was_true : Bool) → (was_true ≡ true → Anchor rate base from)
    → (i : Interval) → own_at rate base heard ≡ Some i → was_true && steady rate (growth_to base heard) from to ≡ true → FitsTime rate (own_with base heard i) to
own_fits rate from to base heard was_true anchor i own both = grind (arith, moved_anchor)

-- whichever interval is chosen fits true time, if the holdover is true by that choice
pub chosen_fits : (rate to : ℕ) (base : Option Base) (heard : Option ℕ) (own : Option Interval) (below : Reading) (below_true own_true : Bool)
    → (below_true ≡ true → Holds below to)
    → ((i : Interval) → own ≡ Some i → own_true ≡ true → FitsTime rate (own_with base heard i) to)
    → choose own below (λ _. below_true) (λ _. own_true) (λ _. true) ≡ true
    → FitsTime rate (choose own below (adopted_with heard) (own_with base heard) lost_with) to
chosen_fits rate to base heard own below b t hb ht e = grind (arith, based_anchor)
