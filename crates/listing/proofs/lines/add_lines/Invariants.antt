-- What each turn keeps.
use Rattle.std.proofs.Common.{◌≡◌, ◌+◌, ◌*◌, ◌≤◌, ◌++◌, length, drop, vec_items, vec_len, vec_capacity}
use Rattle.listing.proofs.Ordered.{lines}
use Rattle.listing.proofs.lines.add_lines.Given as goal

-- the lines so far and those to come are the whole listing's
abbrev pub invariant-loop-event : goal.invariant-loop-event
invariant-loop-event l =
    (vec_items l.lines ++ lines l.offset (drop l.event-index l.events) l.stop ≡ vec_items l.initial.lines ++ lines 0 l.events l.stop)
    × (l.offset ≤ 18 * l.event-index)
    × (vec_len l.lines ≡ vec_len l.initial.lines + l.event-index)
    × (vec_len l.initial.lines + (length l.events + 1) ≤ vec_capacity l.lines)
