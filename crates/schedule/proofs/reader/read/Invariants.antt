-- What each turn of the reading keeps, and what falls.
use Rattle.std.proofs.Common.{◌+◌, ◌≤◌, List, length, vec_len, vec_capacity}
use Rattle.rows.specs.Lent.{Added}
use Rattle.runs.specs.declared.command.Command.{Command}
use Rattle.schedule.proofs.Turns.{Sofar}
use Rattle.schedule.proofs.reader.read.Given as goal

abbrev pub invariant-loop-next : goal.invariant-loop-next
invariant-loop-next l =
    ((found : List Command) × Added l.initial.commands found l.commands × Sofar l.bytes found l.rest)
    × (vec_len l.commands + length l.rest ≤ vec_capacity l.commands)

abbrev pub decreases-loop-next : goal.decreases-loop-next
decreases-loop-next l = length l.rest
