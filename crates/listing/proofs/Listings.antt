-- The listing of a file is the only one.
use Rattle.std.proofs.Common.{◌≡◌, ℕ, List, Option, arith}
use Rattle.rows.specs.Exactly.{Exactly}
use Rattle.clocks.specs.declared.bank.Bank.{Ghosts as Bank}
use Rattle.store.specs.States.{fresh_state}
use Rattle.runs.specs.declared.command.Command.{Command}
use Rattle.runs.specs.Machine.{events_of}
use Rattle.schedule.specs.declared.stop.Stop.{Stop}
use Rattle.schedule.specs.Reading.{Schedules}
use Rattle.listing.specs.declared.line.Line.{Line}
use Rattle.listing.specs.Lines.{listing_text, InOrder, Lists}
use Rattle.listing.proofs.Ordered.{only_lines}

-- the only listing of the file
module _ {B : Type 0} (bank : Bank B) (clocks : B) where
  pub listed : (file text : List ℕ) (commands : List Command) (stop : Option Stop) (ls : List Line) → Exactly (Schedules file) (commands, stop) → InOrder (events_of bank (fresh_state bank clocks) commands) stop ls → text ≡ listing_text ls → Exactly (Lists bank clocks file) text
  listed file text commands stop ls found ordered shown = (
    record { all_commands = commands; end = stop; all_lines = ls; found = found.0; in_order = ordered; their_text = shown },
    λ other o. grind (arith, found.1 (o.all_commands, o.end) o.found, only_lines _ _ _ o.in_order, only_lines _ _ _ ordered, o.their_text, shown),
  )
