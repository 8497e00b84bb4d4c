-- The lines of a listing, and their text.
--   line          a command's offset in its file, its letter and its outcome
--   listing_text  the bytes of some lines
--   InOrder       which lines belong to a run
--   Lists         which text is the listing of a file
use Rattle.std.specs.Prelude.{◌≡◌, ℕ, List, [], ◌∷◌, ◌++◌, length, take, drop, Some, None, Err, decimal, Option}
use Rattle.std.proofs.Math.Utf8.{encode as utf8}
use Rattle.std.specs.List.{flat_map, slice_get}
use Rattle.rows.specs.Details.{space, spaced}
use Rattle.clocks.specs.declared.bank.Bank.{Ghosts as Bank}
use Rattle.store.specs.States.{fresh_state}
use Rattle.runs.specs.declared.command.Command.{Command}
use Rattle.runs.specs.declared.event.Event.{Event}
use Rattle.runs.specs.Machine.{events_of}
use Rattle.runs.specs.Outcomes.{outcome_number, outcome_details}
use Rattle.schedule.specs.declared.stop.Stop.{Stop}
use Rattle.schedule.specs.Encoding.{form_of, encoding}
use Rattle.schedule.specs.Reading.{Schedules}
use Rattle.schedule.specs.Stops.{shown_letter, refusal_of}
use Rattle.listing.specs.declared.line.Line.{Line}

-- offset, letter, number and details, with single spaces: 0 ? 17 33
abbrev pub line_text : Line → List ℕ
line_text l = decimal l.offset ++ (space ∷ (utf8 l.letter ++ spaced (outcome_number l.outcome ∷ outcome_details l.outcome)))

abbrev pub line_with_break : Line → List ℕ
line_with_break l = line_text l ++ (10 ∷ [])

abbrev pub listing_text : List Line → List ℕ
listing_text ls = flat_map line_with_break ls

-- P refused as NoChannel, at offset 18: the line 18 P 15
abbrev pub event_line : ℕ → Event → Line
event_line offset e = record { offset = offset; letter = (form_of e.command).letter; outcome = e.outcome }

-- a P cut with 7 bytes left, at offset 73: the line 73 P 18 7
abbrev pub stop_line : ℕ → Stop → Line
stop_line offset stop = record { offset = offset; letter = shown_letter stop; outcome = Err (refusal_of stop) }

abbrev pub stop_lines : ℕ → Option Stop → List Line
stop_lines offset None = []
stop_lines offset (Some stop) = stop_line offset stop ∷ []

-- how many bytes the commands before a place have: of P, P, I, the I stands at place 2 and offset 36
abbrev pub offset_of : List Event → ℕ → ℕ
offset_of es place = length (flat_map (λ e. encoding e.command) (take place es))

-- a line for each event, at the event's place and offset; behind them the line of the stop, or nothing
pub record InOrder (es : List Event) (stop : Option Stop) (ls : List Line) : Type 0 where
  pub each : (place : ℕ) (e : Event) → slice_get es place ≡ Some e → slice_get ls place ≡ Some (event_line (offset_of es place) e)
  pub last : drop (length es) ls ≡ stop_lines (offset_of es (length es)) stop

-- the commands of the file, run over a store made over the clocks, have these lines, and these this text
pub record Lists {B : Type 0} (bank : Bank B) (clocks : B) (file text : List ℕ) : Type 0 where
  pub all_commands : List Command
  pub end : Option Stop
  pub all_lines : List Line
  pub found : Schedules file (all_commands, end)
  pub in_order : InOrder (events_of bank (fresh_state bank clocks) all_commands) end all_lines
  pub their_text : text ≡ listing_text all_lines
