-- The state of a store, and what each call of it answers and leaves.
--   State          the clocks, and the pairs of the row
--   state_of       the state that a store is in
--   most_shards    how many shards a store has at most
--   shards         how many shards stand over a bank
--   clock_answer   a clock's reading, as a store answers it
--   fresh_state    the state of a store made over a bank
--   after_set      the state after a pair is set
--   after_instant  the state after an instant
--   query_reasons  what a query is refused for before the clock is asked
--   queried        the answer of a query: the clock's reading, or the refusal
use Rattle.std.specs.Prelude.{ℕ, min, List, [], ◌∷◌, Ok, Err, Result, nat_le}
use Rattle.rows.specs.declared.pair.Pair.{Pair}
use Rattle.rows.specs.declared.refusal.Refusal.{Refusal}
use Rattle.rows.specs.declared.refusal.Refusal.TheVariants.{NoShard, Clock}
use Rattle.rows.specs.Refusals.{Reason, unless}
use Rattle.rows.specs.Rows.{nothing_set, after_setting}
use Rattle.clocks.specs.declared.bank.Bank.{Ghosts as Bank}
use Rattle.clocks.specs.declared.interval.Interval.{Interval}
use Rattle.clocks.specs.Intervals.{Reading}
use Rattle.store.specs.declared.store.Store.{Store}

pub record State (B : Type 0) : Type 0 where
  pub clocks : B
  pub pairs : List Pair

abbrev pub state_of : {B : Type 0} → Store B → State B
state_of store = record { clocks = store.clocks; pairs = store.row.pairs }

abbrev pub most_shards : ℕ
most_shards = 8

-- accepted or refused, the clocks stay
abbrev pub after_set : {B : Type 0} → State B → ℕ → Pair → State B
after_set state channel pair = record { clocks = state.clocks; pairs = after_setting state.pairs channel pair }

-- a fault of a clock, as the refusal that carries it
abbrev pub clock_answer : Reading → Result Interval Refusal
clock_answer (Ok interval) = Ok interval
clock_answer (Err fault) = Err (Clock fault)

module _ {B : Type 0} (bank : Bank B) where
  -- over 2 clocks 2 shards, and over 200 clocks 8; the clock of shard 1 is member 1
  abbrev pub shards : B → ℕ
  shards clocks = min (bank.size clocks) most_shards

  abbrev pub fresh_state : B → State B
  fresh_state clocks = record { clocks = bank.fresh clocks; pairs = nothing_set }

  -- every clock advances by the row, and then no pair is set
  abbrev pub after_instant : State B → State B
  after_instant state = record { clocks = bank.next state.clocks state.pairs; pairs = nothing_set }

  abbrev pub query_reasons : State B → ℕ → List Reason
  query_reasons state shard = (nat_le (shards state.clocks) shard, NoShard) ∷ []

  -- of shard 2 of 2: NoShard
  abbrev pub queried : State B → ℕ → Result Interval Refusal
  queried state shard = elim (unless (query_reasons state shard) (bank.reading state.clocks shard)) [ Ok reading ↦ clock_answer reading | Err refusal ↦ Err refusal ]
