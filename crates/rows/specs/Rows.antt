-- What a row holds, and what setting a pair answers and leaves.
--   unset          a pair that is not set
--   nothing_set    the pairs of a fresh row
--   set_reasons    what a setting is refused for, in the order of the tests
--   setting        its answer: nothing, or the refusal
--   after_setting  the pairs after it
use Rattle.std.specs.Prelude.{ℕ, ◌||◌, List, [], ◌∷◌, replicate, Ok, Err, Result, nat_le, nat_lt, slice_set}
use Rattle.rows.specs.declared.pair.Pair.{Pair}
use Rattle.rows.specs.declared.refusal.Refusal.{Refusal}
use Rattle.rows.specs.declared.refusal.Refusal.TheVariants.{NoChannel, BadPair}
use Rattle.rows.specs.Limits.{last_time, channels}
use Rattle.rows.specs.Refusals.{Reason, unless}

-- unheard, since the first number is above the second
abbrev pub unset : Pair
unset = record { first = 1; second = 0 }

abbrev pub nothing_set : List Pair
nothing_set = replicate channels unset

abbrev pub set_reasons : ℕ → Pair → List Reason
set_reasons channel pair =
    (nat_le channels channel, NoChannel)
    ∷ (nat_lt last_time pair.first || nat_lt last_time pair.second, BadPair)
    ∷ []

-- channel 16 with a number above the last time: NoChannel
abbrev pub setting : ℕ → Pair → Result (Unit {0}) Refusal
setting channel pair = unless (set_reasons channel pair) tt

-- accepted, the channel's pair is the new one and every other stays; refused, all stay
abbrev pub after_setting : List Pair → ℕ → Pair → List Pair
after_setting pairs channel pair = elim (setting channel pair) [ Ok done ↦ slice_set pairs channel pair | Err refusal ↦ pairs ]
