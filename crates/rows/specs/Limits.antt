-- The ranges of times, channels, rates and banks.
--   last_time      the greatest time, in microseconds from 0
--   channels       how many channels a row has, numbered from 0
--   greatest_rate  the greatest rate, in parts per million
--   most_members   how many clocks a bank has at most
--   pair_on        the pair on a channel
--   InRange        both numbers of a pair are times
--   Timely         so are those of every pair
use Rattle.std.specs.Prelude.{ℕ, ◌≤◌, List, slice_index_or}
use Rattle.std.specs.List.{All}
use Rattle.rows.specs.declared.pair.Pair.{Pair}

-- 2 ^ 52 - 1, nearly 143 years
abbrev pub last_time : ℕ
last_time = 4503599627370495

abbrev pub channels : ℕ
channels = 16

abbrev pub greatest_rate : ℕ
greatest_rate = 1000

abbrev pub most_members : ℕ
most_members = 255

-- behind the last channel, 0 stands for both numbers
abbrev pub pair_on : List Pair → ℕ → Pair
pair_on pairs channel = slice_index_or pairs channel (record { first = 0; second = 0 })

abbrev pub InRange : Pair → Type 0
InRange pair = (pair.first ≤ last_time) × (pair.second ≤ last_time)

abbrev pub Timely : List Pair → Type 0
Timely pairs = All InRange pairs
