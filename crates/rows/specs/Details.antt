-- The numbers behind a command's number, and how they are written.
--   values  the numbers, in the order in which they are written
--   space   the byte before each
--   spaced  their text
use Rattle.std.specs.Prelude.{ℕ, List, [], ◌∷◌, decimal}
use Rattle.std.specs.List.{flat_map}
use Rattle.rows.specs.declared.details.Details.{Details}
use Rattle.rows.specs.declared.details.Details.TheVariants.{Empty, One, Two, Three}

abbrev pub values : Details → List ℕ
values Empty = []
values (One n) = n ∷ []
values (Two m n) = m ∷ n ∷ []
values (Three l m n) = l ∷ m ∷ n ∷ []

abbrev pub space : ℕ
space = 32

-- each number in decimal behind a space: 33 is the bytes 32 51 51
abbrev pub spaced : List ℕ → List ℕ
spaced numbers = flat_map (λ n. space ∷ decimal n) numbers
