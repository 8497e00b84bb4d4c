-- What a call leaves in a vector that it is lent to add to.
--   Added    so much was added behind what it held
--   NoRoom   it had no room for so many more, and holds what it held
use Rattle.std.specs.Prelude.{◌≡◌, ℕ, ◌+◌, ◌<◌, List, ◌++◌, vec_items, vec_len, vec_capacity, Vec}

-- a vector that held 5, after 7 and 8 were added: 5, 7, 8
abbrev pub Added : {X Z : Type 0} → Vec X Z → List X → Vec X Z → Type 0
Added before more after = vec_items after ≡ vec_items before ++ more

-- room for three, holding two: none for two more, and it still holds the two
abbrev pub NoRoom : {X Z : Type 0} → Vec X Z → ℕ → Vec X Z → Type 0
NoRoom before count after = (vec_capacity before < vec_len before + count) × (vec_items after ≡ vec_items before)
