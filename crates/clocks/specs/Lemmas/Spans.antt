-- The three ways in which there is, or is not, an interval from one number to another.
use Rattle.std.specs.Prelude.{◌≡◌, ℕ, ◌<◌, ◌≤◌, Some, None, Option}
use Rattle.std.proofs.Math.Bridge.{le_prop}
use Rattle.std.proofs.Math.Decide.{dec_le}
use Rattle.std.proofs.Math.Logic.{Dec-prop}
use Rattle.std.proofs.Common.{arith}
use Rattle.rows.specs.Limits.{last_time}
use Rattle.clocks.specs.declared.interval.Interval.{Interval}
use Rattle.clocks.specs.Intervals.{span}

pub data Spanning (e l : ℕ) : Option Interval → Type 0 where
  spanned : (p : e ≤ l) (q : l ≤ last_time) → Spanning e l (Some (record { earliest = e; latest = l; ordered = p; within = q }))
  backwards : l < e → Spanning e l None
  far : last_time < l → Spanning e l None

pub spanning : (e l : ℕ) → Spanning e l (span e l)
spanning e l = grind (arith, spanned, backwards, far)

pub span_is : (e l : ℕ) (p : e ≤ l) (q : l ≤ last_time) → ◌≡◌ {A = Option Interval} (Some (record { earliest = e; latest = l; ordered = p; within = q })) (span e l)
span_is e l p q = cc (Dec-prop le_prop (dec_le e l) (yes p), Dec-prop le_prop (dec_le l last_time) (yes q))

pub span_backwards : (e l : ℕ) → l < e → span e l ≡ None
span_backwards e l h = grind arith
