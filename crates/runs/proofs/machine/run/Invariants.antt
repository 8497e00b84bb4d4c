-- What each turn of the run keeps.
use Rattle.std.proofs.Common.{◌≡◌, ◌+◌, ◌≤◌, ◌++◌, length, drop, vec_items, vec_len, vec_capacity}
use Rattle.store.specs.States.{state_of}
use Rattle.runs.specs.Machine.{events_of, state_after_all}
use Rattle.runs.proofs.machine.run.Given as goal

-- the events so far and those of what is left are the whole run's
abbrev pub invariant-loop-command : goal.invariant-loop-command
invariant-loop-command g l =
    (vec_items l.log ++ events_of g.B.Bank (state_of l.store) (drop l.command-index l.commands) ≡ vec_items l.initial.log ++ events_of g.B.Bank (state_of l.initial.store) l.commands)
    × (state_after_all g.B.Bank (state_of l.store) (drop l.command-index l.commands) ≡ state_after_all g.B.Bank (state_of l.initial.store) l.commands)
    × (vec_len l.log ≡ vec_len l.initial.log + l.command-index)
    × (vec_len l.initial.log + length l.commands ≤ vec_capacity l.log)
