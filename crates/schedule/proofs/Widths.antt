-- The table of letters has the widths of the encodings.
use Rattle.std.proofs.Common.{◌≡◌, length, arith}
use Rattle.runs.specs.declared.command.Command.{Command}
use Rattle.schedule.specs.Encoding.{form_of, encoding}

pub width_is : (c : Command) → (form_of c).width ≡ length (encoding c)
width_is c = grind arith
