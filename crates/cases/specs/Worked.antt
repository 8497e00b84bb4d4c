-- The worked cases, as one statement about the definitions of the clocks.
--   reads         the reading from one time to another
--   seen          the ends of a reading, or the fault's cause, place and depth
--   fuse          what readings fuse to where so many members may err
--   held_at       what a holdover reads at a count, over a clock that is unheard
--   WorkedCases   all the cases together
use Rattle.std.specs.Prelude.{◌≡◌, ℕ, List, [], ◌∷◌, length, Some, Ok, Err, Result}
use Rattle.rows.specs.Faults.{cause_number}
use Rattle.clocks.specs.Hulls.{crossed, hull_step}
use Rattle.clocks.specs.Intervals.{Reading, span_or}
use Rattle.clocks.specs.References.{unheard_on}
use Rattle.fuses.specs.Fuses.{need}
use Rattle.fuses.specs.Sharing.{intervals_of, fused}
use Rattle.holdovers.specs.declared.base.Base.{Base}
use Rattle.holdovers.specs.Holdovers.{held_over}

abbrev pub reads : ℕ → ℕ → Reading
reads earliest latest = span_or earliest latest crossed

abbrev pub Seen : Type 0
Seen = Result (ℕ × ℕ) (ℕ × ℕ × ℕ)

abbrev pub seen : Reading → Seen
seen (Ok i) = Ok (i.earliest, i.latest)
seen (Err fault) = Err (cause_number fault.cause, fault.place, fault.depth)

abbrev pub fuse : ℕ → List Reading → Reading
fuse tolerated readings = fused (need (length readings) tolerated) (intervals_of readings)

-- its interval was adopted at count 0
abbrev pub based : ℕ → ℕ → Base
based earliest latest = record { earliest = earliest; latest = latest; origin = 0; last = 0 }

abbrev pub held_at : ℕ → Base → ℕ → Reading
held_at rate base count = (held_over rate (Some base) (Some count) (Err (unheard_on 0))).reading

pub record WorkedCases : Type 0 where
  pub two_of_three_agree : seen (fuse 1 (reads 100 110 ∷ reads 105 115 ∷ reads 300 310 ∷ [])) ≡ Ok (105, 110)
  pub ends_that_touch_meet : seen (fuse 0 (reads 10 20 ∷ reads 20 30 ∷ [])) ≡ Ok (20, 20)
  -- cause 2, place 1
  pub apart_too_few_meet : seen (fuse 0 (reads 10 20 ∷ reads 21 30 ∷ [])) ≡ Err (2, 1, 0)
  pub a_gap_is_bridged : seen (fuse 1 (reads 0 10 ∷ reads 20 30 ∷ reads 5 25 ∷ [])) ≡ Ok (5, 25)
  pub before_the_first_drift : seen (held_at 200 (based 7 9) 4999) ≡ Ok (5006, 5008)
  pub at_the_first_drift : seen (held_at 200 (based 7 9) 5000) ≡ Ok (5006, 5010)
  -- over [50, 90] the kept time becomes 50
  pub kept_time_rises : (hull_step 0 (reads 50 90)).0 ≡ 50
  pub kept_time_stays : (hull_step 50 (reads 40 80)).0 ≡ 50
  pub read_from_kept_time : seen (hull_step 50 (reads 40 80)).1 ≡ Ok (50, 80)
  -- cause 3
  pub crossed_below_kept_time : seen (hull_step 50 (reads 10 49)).1 ≡ Err (3, 0, 0)
