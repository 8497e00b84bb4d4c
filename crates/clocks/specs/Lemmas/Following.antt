-- What stands below a layer or in a bank advances as it would alone.
use Rattle.std.proofs.Common.{◌≡◌, List, [], ◌∷◌, refl}
use Rattle.rows.specs.declared.pair.Pair.{Pair}
use Rattle.clocks.specs.History.{Instant, after}

-- below is what stands under an outer one, and an instant of the outer one is an instant of it
pub follows : {B C : Type 0} (below : B → C) (outer : B → List Pair → B) (inner : C → List Pair → C) → ((b : B) (pairs : List Pair) → below (outer b pairs) ≡ inner (below b) pairs) → (b : B) (is : List Instant) → below (after outer b is) ≡ after inner (below b) is
follows below outer inner step b [] = refl
follows below outer inner step b (i ∷ before) = cc (follows below outer inner step b before, step (after outer b before) i.pairs)
