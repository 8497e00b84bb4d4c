-- An outcome's number and details, as its line shows them.
--   answer_details   the numbers that an answer has
--   outcome_number   0 for an accepted command, else the refusal's
--   outcome_details  the numbers behind it
use Rattle.std.specs.Prelude.{ℕ, List, [], ◌∷◌, Ok, Err, Result}
use Rattle.rows.specs.declared.refusal.Refusal.{Refusal}
use Rattle.rows.specs.Refusals.{number_of, details_of}
use Rattle.runs.specs.declared.event.Answer.{Answer}
use Rattle.runs.specs.declared.event.Answer.TheVariants.{Done, Reading}

-- of a reading from 100 to 110: 100 110
abbrev pub answer_details : Answer → List ℕ
answer_details Done = []
answer_details (Reading earliest latest) = earliest ∷ latest ∷ []

-- of an accepted command: 0; of one cut: 18
abbrev pub outcome_number : Result Answer Refusal → ℕ
outcome_number (Ok answer) = 0
outcome_number (Err refusal) = number_of refusal

abbrev pub outcome_details : Result Answer Refusal → List ℕ
outcome_details (Ok answer) = answer_details answer
outcome_details (Err refusal) = details_of refusal
