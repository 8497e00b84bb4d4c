-- Commands as bytes.
--   form        a command letter, and its command's width in bytes, the letter included
--   width_of    the width that the table has for a letter
--   encoding    a command's bytes: its letter, then its operands
--   Encodable   every operand fits its bytes
use Rattle.std.specs.Prelude.{ℕ, ◌^◌, ◌<◌, List, [], ◌∷◌, ◌++◌, Option, ◌==◌}
use Rattle.std.specs.Int.{w64, to_be_bytes}
use Rattle.std.specs.List.{find}
use Rattle.std.specs.Option.{option_map}
use Rattle.runs.specs.declared.command.Command.{Command}
use Rattle.runs.specs.declared.command.Command.TheVariants.{Set, Instant, Query}
use Rattle.schedule.specs.declared.form.Form.{Form}

-- P, the channel in one byte and two numbers in eight each
abbrev pub set_form : Form
set_form = record { letter = 80; width = 18 }

-- I, alone
abbrev pub instant_form : Form
instant_form = record { letter = 73; width = 1 }

-- N, and the shard in one byte
abbrev pub query_form : Form
query_form = record { letter = 78; width = 2 }

abbrev pub forms : List Form
forms = set_form ∷ instant_form ∷ query_form ∷ []

abbrev pub form_of : Command → Form
form_of (Set channel pair) = set_form
form_of Instant = instant_form
form_of (Query shard) = query_form

-- the width of the first form that has the letter: width_of 80 is Some 18, and width_of 33 is None
abbrev pub width_of : ℕ → Option ℕ
width_of letter = option_map (λ f. f.width) (find (λ f. f.letter == letter) forms)

-- the operands of P on channel 3 with 100 and 110: 3, then seven 0 and 100, then seven 0 and 110
abbrev pub operands : Command → List ℕ
operands (Set channel pair) = channel ∷ (to_be_bytes w64 pair.first ++ to_be_bytes w64 pair.second)
operands Instant = []
operands (Query shard) = shard ∷ []

abbrev pub encoding : Command → List ℕ
encoding c = (form_of c).letter ∷ operands c

abbrev pub Encodable : Command → Type 0
Encodable (Set channel pair) = (channel < 2 ^ 8) × (pair.first < 2 ^ 64) × (pair.second < 2 ^ 64)
Encodable Instant = Unit {0}
Encodable (Query shard) = shard < 2 ^ 8
