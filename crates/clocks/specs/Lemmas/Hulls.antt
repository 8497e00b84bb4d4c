-- A hull over a clock that keeps the meaning of a clock keeps it again.
use Rattle.std.proofs.Common.{◌≡◌, ◌≤◌, true, List, [], ◌∷◌, ◌++◌, Ok, refl, arith}
use Rattle.clocks.specs.declared.clock.Clock.{Ghosts as Clock}
use Rattle.clocks.specs.declared.hull.Hull.{Hull}
use Rattle.clocks.specs.declared.interval.Interval.{Interval}
use Rattle.clocks.specs.History.{Instant, present, Rising, after}
use Rattle.clocks.specs.Hulls.{hull_made, hull_next, hull_truth, NeverFalls}
use Rattle.clocks.specs.Meaning.{Keeps}
use Rattle.clocks.specs.Lemmas.Following.{follows}

module _ {C : Type 0} (clock : Clock C) (keeps : (made : C) → Keeps clock.fresh clock.next clock.reading clock.truth made) where
  below_after : (h : Hull C) (before : List Instant) → (after (hull_next clock) h before).below ≡ after clock.next h.below before
  below_after = follows (λ h. h.below) (hull_next clock) clock.next (λ h pairs. refl)

  -- while the hull is true its kept time is not past true time
  kept_past : (b : C) (is : List Instant) → Rising is → hull_truth clock (hull_made clock b) is ≡ true → (after (hull_next clock) (hull_made clock b) is).kept ≤ present is
  kept_past b [] rises true_now = omega arith
  kept_past b (i ∷ before) rises true_now = grind (arith, kept_past b before, below_after, (keeps b).holds)

  pub hull_keeps : (made : Hull C) → Keeps (λ h. hull_made clock h.below) (hull_next clock) (λ h. h.reading) (hull_truth clock) made
  hull_keeps made = grind (arith, kept_past, below_after, keeps)

module _ {C : Type 0} (clock : Clock C) where
  begins_kept : (b : C) (is : List Instant) (i : Interval) → (after (hull_next clock) (hull_made clock b) is).reading ≡ Ok i → i.earliest ≡ (after (hull_next clock) (hull_made clock b) is).kept
  begins_kept b [] i e = grind arith
  begins_kept b (j ∷ before) i e = grind arith

  kept_later : (h : Hull C) (earlier later : List Instant) → (after (hull_next clock) h earlier).kept ≤ (after (hull_next clock) h (later ++ earlier)).kept
  kept_later h earlier [] = omega arith
  kept_later h earlier (i ∷ later) = grind (arith, kept_later h earlier later)

  pub hull_rises : (b : C) → NeverFalls clock (hull_made clock b)
  hull_rises b = grind (arith, begins_kept, kept_later)
