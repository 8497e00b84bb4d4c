-- A holdover over a clock that keeps the meaning of a clock keeps it again.
use Rattle.std.proofs.Common.{◌≡◌, true, List, [], ◌∷◌, refl, arith}
use Rattle.clocks.specs.declared.clock.Clock.{Ghosts as Clock}
use Rattle.clocks.specs.History.{Instant, present, Rising, after}
use Rattle.clocks.specs.Meaning.{Keeps}
use Rattle.clocks.specs.Lemmas.Following.{follows}
use Rattle.holdovers.specs.declared.holdover.Holdover.{Holdover}
use Rattle.holdovers.specs.Holdovers.{holdover_fresh, holdover_next, holdover_truth}
use Rattle.holdovers.specs.Lemmas.Anchors.{FitsTime, own_fits, chosen_fits}

module _ {C : Type 0} (clock : Clock C) (keeps : (made : C) → Keeps clock.fresh clock.next clock.reading clock.truth made) where
  -- while the holdover is true, what it holds fits true time
  fits : (made : Holdover C) (is : List Instant) → Rising is → holdover_truth clock (holdover_fresh clock made) is ≡ true → let h = after (holdover_next clock) (holdover_fresh clock made) is in FitsTime h.rate h.held (present is)
  fits made [] rises true_now = grind (arith, (keeps made.below).starts_unread)
  fits made (i ∷ before) rises true_now =
      chosen_fits _ _ _ _ _ _ _ _
      (λ b. rw (follows (λ h. h.below) (holdover_next clock) clock.next (λ h pairs. refl) (holdover_fresh clock made) before) ((keeps made.below).holds i before rises b))
      (own_fits _ (present before) _ _ _ _ (λ w. (fits made before rises.1 w).0)) true_now

  pub holdover_keeps : (made : Holdover C) → Keeps (holdover_fresh clock) (holdover_next clock) (λ h. h.held.reading) (holdover_truth clock) made
  holdover_keeps made = record {
    holds = λ i before rises true_now. (fits made (i ∷ before) rises true_now).1;
    starts_true = refl;
    starts_unread = grind (arith, keeps made.below);
    starts_unheard = λ pairs none. grind (arith, keeps made.below);
    forgets = λ pairs. cc ((keeps made.below).forgets pairs);
    settles = cc (keeps made.below).settles;
  }
