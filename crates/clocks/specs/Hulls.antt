-- A hull reads from its kept time, which never falls, to the latest of the clock below.
--   kept_over    the kept time after a reading of the clock below
--   crossed      the fault of a reading that ends before the kept time
--   read_over    the reading over one of the clock below
--   hull_step    both, after one instant more
--   hull_made    a hull over a clock made fresh
--   hull_next    after one instant more
--   hull_truth   true while the clock below was true at every instant
--   NeverFalls   neither the kept time nor the earliest end falls
use Rattle.std.specs.Prelude.{◌≡◌, ℕ, ◌≤◌, max, Bool, true, ◌&&◌, List, [], ◌∷◌, ◌++◌, Ok, Err}
use Rattle.rows.specs.declared.fault.Fault.{Fault}
use Rattle.rows.specs.declared.fault.Cause.TheVariants.{Crossed}
use Rattle.rows.specs.declared.pair.Pair.{Pair}
use Rattle.rows.specs.Faults.{arising}
use Rattle.clocks.specs.declared.clock.Clock.{Ghosts as Clock}
use Rattle.clocks.specs.declared.hull.Hull.{Hull}
use Rattle.clocks.specs.declared.interval.Interval.{Interval}
use Rattle.clocks.specs.History.{Instant, after}
use Rattle.clocks.specs.Intervals.{Reading, span_or, passed_up}

-- kept 50 over [40, 80] stays 50, and over [60, 80] becomes 60
abbrev pub kept_over : ℕ → Reading → ℕ
kept_over kept (Ok i) = max kept i.earliest
kept_over kept (Err fault) = kept

abbrev pub crossed : Fault
crossed = arising Crossed 0

-- kept 50 over [40, 80] reads [50, 80], and over [10, 49] is crossed
abbrev pub read_over : ℕ → Reading → Reading
read_over kept (Ok i) = span_or kept i.latest crossed
read_over kept (Err fault) = passed_up (Err fault)

-- the kept time and the reading after a reading of the clock below
abbrev pub hull_step : ℕ → Reading → ℕ × Reading
hull_step kept below = (kept_over kept below, read_over (kept_over kept below) below)

module _ {C : Type 0} (clock : Clock C) where
  abbrev pub hull_made : C → Hull C
  hull_made below = record { below = clock.fresh below; kept = 0; reading = read_over 0 (clock.reading (clock.fresh below)) }

  abbrev pub hull_next : Hull C → List Pair → Hull C
  hull_next h pairs =
      let below = clock.next h.below pairs in
      let step = hull_step h.kept (clock.reading below) in
      record { below = below; kept = step.0; reading = step.1 }

  abbrev pub hull_truth : Hull C → List Instant → Bool
  hull_truth h [] = true
  hull_truth h (i ∷ before) = hull_truth h before && clock.truth h.below (i ∷ before)

  -- after [50, 90] the kept time is never below 50 again, and no reading begins before 50
  pub record NeverFalls (h : Hull C) : Type 0 where
    pub kept_time : (earlier later : List Instant) → (after hull_next h earlier).kept ≤ (after hull_next h (later ++ earlier)).kept
    pub begins : (earlier later : List Instant) (a b : Interval) → (after hull_next h earlier).reading ≡ Ok a → (after hull_next h (later ++ earlier)).reading ≡ Ok b → a.earliest ≤ b.earliest
