-- The machine: what each command answers and leaves, and the run of a list of commands.
--   outcome_of       a command's answer, or its refusal
--   state_after      the state after a command
--   performed        a command with its outcome: its event
--   events_of        the events of a run, the first first
--   state_after_all  the state after a run
use Rattle.std.specs.Prelude.{List, [], ◌∷◌, Ok, Err, Result}
use Rattle.rows.specs.declared.refusal.Refusal.{Refusal}
use Rattle.rows.specs.Rows.{setting}
use Rattle.clocks.specs.declared.bank.Bank.{Ghosts as Bank}
use Rattle.store.specs.States.{State, after_set, after_instant, queried}
use Rattle.runs.specs.declared.command.Command.{Command}
use Rattle.runs.specs.declared.command.Command.TheVariants.{Set, Instant, Query}
use Rattle.runs.specs.declared.event.Answer.{Answer}
use Rattle.runs.specs.declared.event.Answer.TheVariants.{Done, Reading}
use Rattle.runs.specs.declared.event.Event.{Event}

module _ {B : Type 0} (bank : Bank B) where
  -- of P on channel 16: the refusal NoChannel; of N: the two ends of the clock's reading
  abbrev pub outcome_of : State B → Command → Result Answer Refusal
  outcome_of state (Set channel pair) = elim (setting channel pair) [ Ok done ↦ Ok Done | Err refusal ↦ Err refusal ]
  outcome_of state Instant = Ok Done
  outcome_of state (Query shard) = elim (queried bank state shard) [ Ok interval ↦ Ok (Reading interval.earliest interval.latest) | Err refusal ↦ Err refusal ]

  -- a query leaves everything as it was
  abbrev pub state_after : State B → Command → State B
  state_after state (Set channel pair) = after_set state channel pair
  state_after state Instant = after_instant bank state
  state_after state (Query shard) = state

  abbrev pub performed : State B → Command → Event
  performed state c = record { command = c; outcome = outcome_of state c }

  -- as many as there are commands
  abbrev pub events_of : State B → List Command → List Event
  events_of state [] = []
  events_of state (c ∷ cs) = performed state c ∷ events_of (state_after state c) cs

  -- after a run that ends with I: no pair is set
  abbrev pub state_after_all : State B → List Command → State B
  state_after_all state [] = state
  state_after_all state (c ∷ cs) = state_after_all (state_after state c) cs
