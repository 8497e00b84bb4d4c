-- After the last event, and after the stop, the lines are all there.
use Rattle.std.proofs.Common.{arith}
use Rattle.std.proofs.lemmas.Grind.{common_steps}
use Rattle.listing.proofs.Ordered.{lines_in_order}
use Rattle.listing.proofs.lines.add_lines.Goals as goal

pub returns-in_default : goal.returns-in_default
returns-in_default c = (_, grind (arith, common_steps), lines_in_order _ _)

pub returns-in-Some : goal.returns-in-Some
returns-in-Some c = (_, grind (arith, common_steps), lines_in_order _ _)
