-- What the line of a stop shows.
--   shown_letter  what stands in the letter's place
--   refusal_of    the refusal, which has the number and the details
use Rattle.std.specs.Prelude.{ℕ}
use Rattle.rows.specs.declared.refusal.Refusal.{Refusal}
use Rattle.rows.specs.declared.refusal.Refusal.TheVariants.{Unknown, Cut, Long}
use Rattle.schedule.specs.declared.stop.Stop.{Stop}
use Rattle.schedule.specs.declared.stop.Stop.TheVariants.{NotALetter, CutShort, TooLong}

-- a question mark, the command's letter, a hyphen
abbrev pub shown_letter : Stop → ℕ
shown_letter (NotALetter byte) = 63
shown_letter (CutShort letter left) = letter
shown_letter TooLong = 45

-- the byte 33: ? 17 33; a lone P: P 18 1; a file that is too long: - 21
abbrev pub refusal_of : Stop → Refusal
refusal_of (NotALetter byte) = Unknown byte
refusal_of (CutShort letter left) = Cut left
refusal_of TooLong = Long
