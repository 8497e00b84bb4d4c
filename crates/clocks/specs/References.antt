-- A reference reads the pair on its channel.
--   unheard_on         its fault where that pair is not heard
--   heard_on           its reading of a row
--   reference_fresh    a reference made fresh
--   reference_next     after one instant more
--   reference_truth    true where the pair is unheard or holds true time
--   reference_reasons  what a new one is refused for
--   referring          nothing, or the refusal
--   Refers             a fresh reference on this channel
--   MadeOn             that reference, or the refusal
use Rattle.std.specs.Prelude.{◌≡◌, ℕ, Bool, true, List, [], ◌∷◌, Ok, Err, Result, nat_le}
use Rattle.rows.specs.declared.fault.Fault.{Fault}
use Rattle.rows.specs.declared.fault.Cause.TheVariants.{Unheard}
use Rattle.rows.specs.declared.pair.Pair.{Pair}
use Rattle.rows.specs.declared.refusal.Refusal.{Refusal}
use Rattle.rows.specs.declared.refusal.Refusal.TheVariants.{NoChannel}
use Rattle.rows.specs.Faults.{arising}
use Rattle.rows.specs.Limits.{channels, pair_on}
use Rattle.rows.specs.Refusals.{Reason, unless}
use Rattle.clocks.specs.declared.reference.Reference.{Reference}
use Rattle.clocks.specs.Intervals.{Reading, span_or, within}
use Rattle.clocks.specs.History.{Instant}

abbrev pub unheard_on : ℕ → Fault
unheard_on channel = arising Unheard channel

-- the pair (100, 110) reads [100, 110]; (1, 0) is unheard
abbrev pub heard_on : List Pair → ℕ → Reading
heard_on pairs channel = span_or (pair_on pairs channel).first (pair_on pairs channel).second (unheard_on channel)

abbrev pub reference_fresh : Reference → Reference
reference_fresh r = record { channel = r.channel; reading = Err (unheard_on r.channel.index) }

abbrev pub reference_next : Reference → List Pair → Reference
reference_next r pairs = record { channel = r.channel; reading = heard_on pairs r.channel.index }

abbrev pub reference_truth : Reference → List Instant → Bool
reference_truth r [] = true
reference_truth r (i ∷ before) = elim (heard_on i.pairs r.channel.index) [ Ok interval ↦ within interval i.time | Err fault ↦ true ]

abbrev pub reference_reasons : ℕ → List Reason
reference_reasons channel = (nat_le channels channel, NoChannel) ∷ []

abbrev pub referring : ℕ → Result (Unit {0}) Refusal
referring channel = unless (reference_reasons channel) tt

pub record Refers (channel : ℕ) (r : Reference) : Type 0 where
  pub on_channel : r.channel.index ≡ channel
  pub unheard : r.reading ≡ Err (unheard_on channel)

-- on channel 16: NoChannel
abbrev pub MadeOn : ℕ → Result Reference Refusal → Type 0
MadeOn channel (Ok r) = (referring channel ≡ Ok tt) × Refers channel r
MadeOn channel (Err refusal) = referring channel ≡ Err refusal
