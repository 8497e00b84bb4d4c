-- What is found in bytes, told by the encodings of commands.
--   Reads      what stands at the front of some bytes
--   StopsAt    the bytes begin with no whole command, and why
--   Schedules  what stands in a whole file: its commands, and the stop where it was not read to its end
use Rattle.std.specs.Prelude.{◌≡◌, ℕ, ◌<◌, List, [], ◌∷◌, ◌++◌, length, IfSome, Some, None, Ok, Err, MatchBool, Option, Result, MatchOption, nat_le}
use Rattle.std.specs.Borrow.{Bor}
use Rattle.std.specs.List.{flat_map, AllByRecursion}
use Rattle.std.specs.Option.{option_map}
use Rattle.runs.specs.declared.command.Command.{Command}
use Rattle.schedule.specs.declared.stop.Stop.{Stop}
use Rattle.schedule.specs.declared.stop.Stop.TheVariants.{NotALetter, CutShort, TooLong}
use Rattle.schedule.specs.Encoding.{width_of, encoding, Encodable}

-- no letter of the table: not a letter; a letter, and fewer bytes than its width, itself counted: cut short
abbrev pub StopsAt : List ℕ → Stop → Type 0
StopsAt [] stop = ⊥
StopsAt (letter ∷ rest) stop =
    MatchOption (width_of letter) (stop ≡ NotALetter letter) (λ width. (length (letter ∷ rest) < width) × (stop ≡ CutShort letter (length (letter ∷ rest))))

-- nothing; or a command and the rest, whose bytes these are; or why there is no command
abbrev pub Reads : List ℕ → Option (Result (Command × List ℕ) Stop) → Type 0
Reads bytes None = bytes ≡ []
Reads bytes (Some (Ok found)) = Encodable found.0 × (bytes ≡ encoding found.0 ++ found.1)
Reads bytes (Some (Err stop)) = StopsAt bytes stop

-- what the code hands back, with the rest as bytes
abbrev pub seen : Option (Result (Command × Bor (List ℕ)) Stop) → Option (Result (Command × List ℕ) Stop)
seen None = None
seen (Some (Ok found)) = Some (Ok (found.0, found.1.now))
seen (Some (Err stop)) = Some (Err stop)

-- there are no bytes, or they begin with no letter of the table, or are fewer than the letter's width
abbrev pub NoWholeCommand : List ℕ → Type 0
NoWholeCommand [] = Unit {0}
NoWholeCommand (letter ∷ rest) = IfSome (width_of letter) (λ width. length (letter ∷ rest) < width)

-- the bytes are the commands' encodings one after the other, then bytes at which reading stops, or none
pub record Splits (bytes : List ℕ) (found : List Command × Option Stop) : Type 0 where
  pub tail : List ℕ
  pub whole : bytes ≡ flat_map encoding found.0 ++ tail
  pub each : AllByRecursion Encodable found.0
  pub ends : Reads tail (option_map Err found.1)

-- the most bytes that a file may have
abbrev pub longest : ℕ
longest = 65536

-- of a longer file nothing is read
abbrev pub Schedules : List ℕ → List Command × Option Stop → Type 0
Schedules bytes found = MatchBool (nat_le (length bytes) longest) (Splits bytes found) (found ≡ ([], Some TooLong))
