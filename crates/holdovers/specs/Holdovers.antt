-- A holdover adopts the reading of the clock below where that is narrower than its own interval.
--   choose            what comes of the reading below, of the own interval, or of neither
--   adopted_with      the base and the reading where the reading below is adopted
--   own_with          the base and the reading where the own interval is read
--   lost_with         the base and the reading with neither
--   without_base      no base, and the reading below, passed up
--   held_over         the base and the reading after an instant
--   apart             how far two times are apart
--   steady            the count ran off no further than its rate allows
--   holdover_reasons  what a new one is refused for, in the order of the tests
--   making            nothing, or the refusal
--   holdover_fresh    a holdover made fresh
--   holdover_held     its base and its reading after a row
--   holdover_next     the holdover after one instant more
--   true_next         whether it is true then
--   holdover_truth    whether it is true after these instants
--   Makes             a clock, made fresh, a channel and a rate make this holdover
--   Answers           that holdover, or the refusal
use Rattle.std.specs.Prelude.{◌≡◌, ℕ, ◌+◌, ◌-◌, ◌*◌, max, Bool, true, cond, ◌&&◌, List, [], ◌∷◌, Some, None, Ok, Err, Option, Result, nat_le, nat_lt}
use Rattle.rows.specs.declared.fault.Fault.{Fault}
use Rattle.rows.specs.declared.pair.Pair.{Pair}
use Rattle.rows.specs.declared.refusal.Refusal.{Refusal}
use Rattle.rows.specs.declared.refusal.Refusal.TheVariants.{NoChannel, BadRate}
use Rattle.rows.specs.Faults.{deeper}
use Rattle.rows.specs.Limits.{channels, greatest_rate}
use Rattle.rows.specs.Refusals.{Reason, unless}
use Rattle.clocks.specs.declared.clock.Clock.{Ghosts as Clock}
use Rattle.clocks.specs.declared.interval.Interval.{Interval}
use Rattle.clocks.specs.History.{Instant, present, after}
use Rattle.clocks.specs.Intervals.{Reading, passed_up, width}
use Rattle.holdovers.specs.declared.base.Base.{Base}
use Rattle.holdovers.specs.declared.held.Held.{Held}
use Rattle.holdovers.specs.declared.holdover.Holdover.{Holdover}
use Rattle.holdovers.specs.Bases.{million, count_on, own_at, based_on, moved_to, growth_to}

-- the own [7, 9] is read over [20, 22] below, and [20, 21] is adopted
abbrev pub choose : {A : Type 0} → Option Interval → Reading → (Interval → A) → (Interval → A) → (Fault → A) → A
choose (Some own) (Ok below) adopted going_on lost = cond (nat_lt (width below) (width own)) (adopted below) (going_on own)
choose (Some own) (Err fault) adopted going_on lost = going_on own
choose None (Ok below) adopted going_on lost = adopted below
choose None (Err fault) adopted going_on lost = lost fault

abbrev pub adopted_with : Option ℕ → Interval → Held
adopted_with heard i = record { base = based_on i heard; reading = Ok i }

abbrev pub own_with : Option Base → Option ℕ → Interval → Held
own_with base heard i = record { base = moved_to base heard; reading = Ok i }

abbrev pub lost_with : Fault → Held
lost_with fault = record { base = None; reading = Err (deeper fault) }

-- over the fault 1 0 0 it reads the fault 1 0 1
abbrev pub without_base : Reading → Held
without_base below = record { base = None; reading = passed_up below }

abbrev pub held_over : ℕ → Option Base → Option ℕ → Reading → Held
held_over rate base heard below = choose (own_at rate base heard) below (adopted_with heard) (own_with base heard) lost_with

abbrev pub apart : ℕ → ℕ → ℕ
apart m n = max (m - n) (n - m)

-- at rate 200, where a count grows by 5000, true time grows by 4999 to 5001
abbrev pub steady : ℕ → ℕ → ℕ → ℕ → Bool
steady rate growth from to = nat_le (apart to (from + growth) * million) (rate * growth)

-- channel 16 at rate 1001: NoChannel
abbrev pub holdover_reasons : ℕ → ℕ → List Reason
holdover_reasons channel rate =
    (nat_le channels channel, NoChannel)
    ∷ (nat_lt greatest_rate rate, BadRate)
    ∷ []

abbrev pub making : ℕ → ℕ → Result (Unit {0}) Refusal
making channel rate = unless (holdover_reasons channel rate) tt

module _ {C : Type 0} (clock : Clock C) where
  abbrev pub holdover_fresh : Holdover C → Holdover C
  holdover_fresh h = record { below = clock.fresh h.below; channel = h.channel; rate = h.rate; held = without_base (clock.reading (clock.fresh h.below)) }

  abbrev pub holdover_held : Holdover C → List Pair → Held
  holdover_held h pairs = held_over h.rate h.held.base (count_on pairs h.channel.index) (clock.reading (clock.next h.below pairs))

  abbrev pub holdover_next : Holdover C → List Pair → Holdover C
  holdover_next h pairs = record { below = clock.next h.below pairs; channel = h.channel; rate = h.rate; held = holdover_held h pairs }

  -- by whether the clock below is true now and the holdover was before, and by the true times before and now
  abbrev pub true_next : Holdover C → List Pair → Bool → Bool → ℕ → ℕ → Bool
  true_next h pairs below_true was_true from to =
      let heard = count_on pairs h.channel.index in
      choose (own_at h.rate h.held.base heard) (clock.reading (clock.next h.below pairs))
      (λ adopted. below_true)
      (λ own. was_true && steady h.rate (growth_to h.held.base heard) from to)
      (λ fault. true)

  abbrev pub holdover_truth : Holdover C → List Instant → Bool
  holdover_truth h [] = true
  holdover_truth h (i ∷ before) = true_next (after holdover_next h before) i.pairs (clock.truth h.below (i ∷ before)) (holdover_truth h before) (present before) i.time

  pub record Makes (below : C) (channel rate : ℕ) (h : Holdover C) : Type 0 where
    pub below_fresh : h.below ≡ clock.fresh below
    pub on_channel : h.channel.index ≡ channel
    pub at_rate : h.rate ≡ rate
    pub no_base : h.held.base ≡ None
    pub fault_raised : h.held.reading ≡ passed_up (clock.reading (clock.fresh below))

  abbrev pub Answers : C → ℕ → ℕ → Result (Holdover C) Refusal → Type 0
  Answers below channel rate (Ok h) = (making channel rate ≡ Ok tt) × Makes below channel rate h
  Answers below channel rate (Err refusal) = making channel rate ≡ Err refusal
