-- What each turn keeps.
use Rattle.std.proofs.Common.{◌≡◌, take, string_bytes}
use Rattle.listing.specs.Lines.{listing_text}
use Rattle.listing.proofs.text.text_of.Given as goal

abbrev pub invariant-loop-line : goal.invariant-loop-line
invariant-loop-line l = string_bytes l.text ≡ listing_text (take l.line-index l.lines)
