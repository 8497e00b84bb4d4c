-- What was read to the end of the file, or to where reading stops, is all that there is.
use Rattle.std.proofs.Common.{arith}
use Rattle.std.proofs.lemmas.Grind.{common_steps}
use Rattle.schedule.proofs.Unique.{all_found}
use Rattle.schedule.proofs.reader.read.Goals as goal

pub returns-in-Err : goal.returns-in-Err
returns-in-Err c =
    let found = c.loop-next.invariant.0 in
    (found.0, grind (arith, common_steps), all_found _ _ _ _ found.2 (rw c.in-Err.is at c.in-Some.ensures.exact.0) (omega arith))

pub returns : goal.returns
returns c =
    let found = c.loop-next.invariant.0 in
    (found.0, grind (arith, common_steps), all_found _ _ _ _ found.2 c.in_default.ensures.exact.0 (omega arith))
