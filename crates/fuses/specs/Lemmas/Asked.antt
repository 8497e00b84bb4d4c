-- The readings of members that are asked one after the other.
use Rattle.std.proofs.Common.{◌≡◌, ℕ, suc, ◌+◌, List, [], ◌∷◌, ◌++◌, map, Ok, Err, refl, ap, ◌∙◌, append-nil, arith}
use Rattle.std.specs.List.{All, range_with_len}
use Rattle.std.proofs.lemmas.List.FromFn.{map-range_with_len_more}
use Rattle.std.proofs.lemmas.List.{map_push}
use Rattle.std.proofs.lemmas.List.Elements.{All-tail}
use Rattle.rows.specs.declared.fault.Fault.{Fault}
use Rattle.clocks.specs.declared.interval.Interval.{Interval}
use Rattle.clocks.specs.Intervals.{Reading, Unread}
use Rattle.fuses.specs.Sharing.{intervals_of, sharing}

intervals_append : (xs ys : List Reading) → intervals_of (xs ++ ys) ≡ intervals_of xs ++ intervals_of ys
intervals_append [] ys = refl
intervals_append (Ok i ∷ xs) ys = ap (λ is. i ∷ is) (intervals_append xs ys)
intervals_append (Err fault ∷ xs) ys = intervals_append xs ys

sharing_append : (xs ys : List Interval) (time : ℕ) → sharing (xs ++ ys) time ≡ sharing xs time + sharing ys time
sharing_append [] ys time = omega arith
sharing_append (i ∷ xs) ys time = omega (arith, sharing_append xs ys time)

-- the readings of the first so many members
abbrev pub first_intervals : (ℕ → Reading) → ℕ → List Interval
first_intervals reading n = intervals_of (map reading (range_with_len 0 n))

pub intervals_more : (reading : ℕ → Reading) (n : ℕ) → first_intervals reading (n + 1) ≡ first_intervals reading n ++ intervals_of (reading n ∷ [])
intervals_more reading n = ap intervals_of (map-range_with_len_more reading 0 n n (omega arith)) ∙ intervals_append (map reading (range_with_len 0 n)) (reading n ∷ [])

pub sharing_more : (reading : ℕ → Reading) (n time : ℕ) → sharing (first_intervals reading (suc n)) time ≡ sharing (first_intervals reading n) time + sharing (intervals_of (reading n ∷ [])) time
sharing_more reading n time =
    let one_more : suc n ≡ n + 1 = omega arith in
    ap (λ is. sharing is time) (ap (first_intervals reading) one_more ∙ intervals_more reading n) ∙ sharing_append (first_intervals reading n) (intervals_of (reading n ∷ [])) time

-- a member without a reading adds none
pub asked_unread : (f : Interval → ℕ) (reading : ℕ → Reading) (n : ℕ) (fault : Fault) (found : List ℕ) → found ≡ map f (first_intervals reading n) → reading n ≡ Err fault → found ≡ map f (first_intervals reading (n + 1))
asked_unread f reading n fault found so none = rw (intervals_more reading n, none, append-nil) so

-- a member with a reading adds it
pub asked_read : (f : Interval → ℕ) (reading : ℕ → Reading) (n : ℕ) (i : Interval) (found : List ℕ) → found ≡ map f (first_intervals reading n) → reading n ≡ Ok i → found ++ f i ∷ [] ≡ map f (first_intervals reading (n + 1))
asked_read f reading n i found so one = rw (intervals_more reading n, one, map_push) (ap (λ ns. ns ++ f i ∷ []) so)

-- where no member has a reading there is none
pub none_read : (readings : List Reading) → All Unread readings → intervals_of readings ≡ []
none_read [] unread = refl
none_read (Ok i ∷ readings) unread = absurd (unread 0 (Ok i) (omega arith))
none_read (Err fault ∷ readings) unread = none_read readings (All-tail Unread (Err fault) readings unread)
