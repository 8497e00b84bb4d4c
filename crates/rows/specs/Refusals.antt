-- Every refusal's number and details, and which of several is given.
--   number_of   the number on the line; 0 is kept for an accepted command
--   details_of  the numbers behind it
--   Reason      whether a refusal applies, and the refusal
--   unless      an answer, where no reason applies
use Rattle.std.specs.Prelude.{ℕ, Bool, cond, List, [], ◌∷◌, Ok, Err, Result}
use Rattle.rows.specs.declared.refusal.Refusal.{Refusal}
use Rattle.rows.specs.declared.refusal.Refusal.TheVariants.{NoShard, Clock, NoChannel, BadPair, Unknown, Cut, BadRate, Long}
use Rattle.rows.specs.Faults.{cause_number}

abbrev pub number_of : Refusal → ℕ
number_of NoShard = 3
number_of (Clock fault) = 9
number_of NoChannel = 15
number_of BadPair = 16
number_of (Unknown byte) = 17
number_of (Cut left) = 18
number_of BadRate = 19
number_of Long = 21

-- the byte 33, unknown: 33; a command cut with 7 bytes left: 7; too few meet, two layers below: 2 0 2
abbrev pub details_of : Refusal → List ℕ
details_of NoShard = []
details_of (Clock fault) = cause_number fault.cause ∷ fault.place ∷ fault.depth ∷ []
details_of NoChannel = []
details_of BadPair = []
details_of (Unknown byte) = byte ∷ []
details_of (Cut left) = left ∷ []
details_of BadRate = []
details_of Long = []

abbrev pub Reason : Type 0
Reason = Bool × Refusal

-- the first refusal in the list that applies, or the answer if none does
abbrev pub unless : {A : Type 0} → List Reason → A → Result A Refusal
unless [] answer = Ok answer
unless (reason ∷ others) answer = cond reason.0 (Err reason.1) (unless others answer)
