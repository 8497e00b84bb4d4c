-- What is found among where readings begin and where they end is what the readings fuse to.
use Rattle.std.proofs.Common.{◌≡◌, ℕ, zero, suc, ◌+◌, ◌-◌, ◌<◌, ◌≤◌, Bool, true, false, cond, ltb, leb, ◌⊎◌, List, [], ◌∷◌, length, get_or, drop, fold, All, Some, None, Option, count_by, MatchOption, inl, inr, refl, sym, ap, ◌∙◌, subst, arith}
use Rattle.std.specs.List.{AllWithin}
use Rattle.std.specs.List.Sorted.{IsNonDecreasing}
use Rattle.std.proofs.lemmas.List.{get_or-drop, drop_more, length-drop, length-map}
use Rattle.std.proofs.Math.ListN.{drop_of_length-le}
use Rattle.std.proofs.lemmas.Grind.{get_or_default_zero}
use Rattle.std.proofs.lemmas.List.Sorted.{All-permutation, length_permutation}
use Rattle.std.proofs.lemmas.List.Sums.{sum_by-cons, count_by-le-length}
use Rattle.std.proofs.lemmas.Bool.{le-leb, lt-leb, le-ltb, lt-ltb, ltb-false, cases_lt}
use Rattle.std.proofs.lemmas.List.Elements.{All-map, All-head}
use Rattle.std.proofs.lemmas.Bool.Decides.{nat_tests}
use Rattle.rows.specs.Limits.{last_time}
use Rattle.clocks.specs.declared.interval.Interval.{Interval}
use Rattle.clocks.specs.Intervals.{span as span_between}
use Rattle.clocks.specs.Lemmas.Spans.{spanning, spanned, backwards, far}
use Rattle.fuses.specs.Bounds.{BoundsOf, without_ended, stretched}
use Rattle.fuses.specs.Sharing.{sharing, shared_by, Smallest, Most}
use Rattle.fuses.specs.Lemmas.Readings.{shared_is as counted}

-- at least the first so many pass
count_some : {X : Type 0} (p : X → Bool) (xs : List X) (m : ℕ) → m ≤ length xs → AllWithin (λ y. p y ≡ true) xs 0 m → m ≤ count_by p xs
count_some p xs zero h pass = omega arith
count_some p [] (suc m) h pass = absurd (omega arith)
count_some p (x ∷ xs) (suc m) h pass =
    let rest = count_some p xs m (omega arith) (λ k d l g. pass (suc k) d (omega arith) (omega arith)) in
    let first : p x ≡ true = pass 0 x (omega arith) (omega arith) in
    let here : count_by p (x ∷ xs) ≡ 1 + count_by p xs = sum_by-cons (λ y. cond (p y) 1 0) x xs ∙ ap (λ b. cond b 1 0 + count_by p xs) first in
    omega (arith, rest, here)

-- at most those before the first that all fail after
count_few : {X : Type 0} (p : X → Bool) (xs : List X) (m : ℕ) → AllWithin (λ y. p y ≡ false) xs m (length xs) → count_by p xs ≤ m
count_few p [] m fail = omega arith
count_few p (x ∷ xs) zero fail =
    let rest = count_few p xs zero (λ k d l g. fail (suc k) d (omega arith) (omega arith)) in
    let first : p x ≡ false = fail 0 x (omega arith) (omega arith) in
    let here : count_by p (x ∷ xs) ≡ 0 + count_by p xs = sum_by-cons (λ y. cond (p y) 1 0) x xs ∙ ap (λ b. cond b 1 0 + count_by p xs) first in
    omega (arith, rest, here)
count_few p (x ∷ xs) (suc m) fail =
    let rest = count_few p xs m (λ k d l g. fail (suc k) d (omega arith) (omega arith)) in
    let here : cond (p x) 1 0 ≤ 1 = grind (arith, nat_tests) in
    omega (arith, rest, here, sum_by-cons (λ y. cond (p y) 1 0) x xs)

shared_is : (is : List Interval) (begins ends : List ℕ) → BoundsOf is begins ends → (time : ℕ) → shared_by begins ends time ≡ sharing is time
shared_is is begins ends of time = ap (λ shares. shares time) (counted is begins ends of.begun of.ended)

as_many : (is : List Interval) (begins ends : List ℕ) → BoundsOf is begins ends → length begins ≡ length ends
as_many is begins ends of = omega (arith, length_permutation _ begins of.begun, length_permutation _ ends of.ended, length-map is (λ i. i.earliest), length-map is (λ i. i.latest))

timely : (is : List Interval) (begins ends : List ℕ) → BoundsOf is begins ends → All (λ t. t ≤ last_time) ends
timely is begins ends of = All-permutation (λ t. t ≤ last_time) _ ends of.ended (All-map (λ t. t ≤ last_time) (λ i. i.latest) is (λ k d h. (get_or is k d).within))

module _ (is : List Interval) (begins ends : List ℕ) (of : BoundsOf is begins ends) (begins_rise : IsNonDecreasing begins) (ends_rise : IsNonDecreasing ends) (need : ℕ) (one : 1 ≤ need) where
  same : (time : ℕ) → shared_by begins ends time ≡ sharing is time
  same = shared_is is begins ends of

  -- the beginning that goes with an end has begun before or at it: enough share each time from the one to the other
  abbrev pub Meet : ℕ → Type 0
  Meet k = get_or begins (need - 1 + k) 0 ≤ get_or ends k 0

  abbrev pub Apart : ℕ → Type 0
  Apart k = get_or ends k 0 < get_or begins (need - 1 + k) 0

  pair_shared : (k time : ℕ) → need - 1 + k < length begins → get_or begins (need - 1 + k) 0 ≤ time → time ≤ get_or ends k 0 → need ≤ sharing is time
  pair_shared k time h begun ends_later =
      let at : ℕ = need - 1 + k in
      let within : k < length ends = omega (arith, h, as_many is begins ends of) in
      let some = count_some (λ n. leb n time) begins (at + 1) (omega (arith, h)) (λ j d l g. le-leb (get_or begins j d) time (omega (arith, begins_rise j at d (omega arith) h, get_or_default_zero begins at d h, begun))) in
      let few = count_few (λ n. ltb n time) ends k (λ j d l g. le-ltb (get_or ends j d) time (omega (arith, ends_rise k j d l g, get_or_default_zero ends k d within, ends_later))) in
      omega (arith, some, few, same time, one)

  shared_pair : (time : ℕ) → need ≤ sharing is time → (k : ℕ) × (need - 1 + k < length begins) × (get_or begins (need - 1 + k) 0 ≤ time) × (time ≤ get_or ends k 0)
  shared_pair time enough = (k, there, begun, ends_later)
    where
      k : ℕ
      k = count_by (λ n. ltb n time) ends

      at : ℕ
      at = need - 1 + k

      counted_there : at < count_by (λ n. leb n time) begins
      counted_there = omega (arith, enough, same time, one)

      there : at < length begins
      there = omega (arith, counted_there, count_by-le-length (λ n. leb n time) begins)

      within : k < length ends
      within = omega (arith, there, as_many is begins ends of)

      begun : get_or begins at 0 ≤ time
      begun = elim (cases_lt time (get_or begins at 0)) [
        | inr h ↦ h
        | inl h ↦ let few = count_few (λ n. leb n time) begins at (λ j d l g. lt-leb (get_or begins j d) time (omega (arith, h, begins_rise at j d l g, get_or_default_zero begins at d there))) in absurd (omega (arith, few, counted_there))
      ]

      ends_later : time ≤ get_or ends k 0
      ends_later = elim (cases_lt (get_or ends k 0) time) [
        | inr h ↦ h
        | inl h ↦ let more = count_some (λ n. ltb n time) ends (k + 1) (omega (arith, within)) (λ j d l g. lt-ltb (get_or ends j d) time (omega (arith, h, ends_rise j k d (omega arith) within, get_or_default_zero ends k d within))) in absurd (omega (arith, more))
      ]

  -- where no pair meets, too few share each time
  pub none_met : (j : ℕ) → length begins ≤ need - 1 + j → ((k : ℕ) → k < j → Apart k) → (time : ℕ) → sharing is time < need
  none_met j all apart time =
      elim (cases_lt (sharing is time) need) [
        | inl few ↦ few
        | inr h ↦ let p = shared_pair time h in absurd (omega (arith, apart p.0 (omega (arith, all, p.1)), p.2, p.3))
      ]

  -- from where the first pair meets to where the last one does
  module _ (j first last : ℕ) (all : length begins ≤ need - 1 + j) (first_in : need - 1 + first < length begins) (last_in : need - 1 + last < length begins) (first_meets : Meet first) (last_meets : Meet last) (none_before : (k : ℕ) → k < first → Apart k) (none_after : (k : ℕ) → last < k → k < j → Apart k) where
    abbrev low : ℕ
    low = get_or begins (need - 1 + first) 0

    abbrev high : ℕ
    high = get_or ends last 0

    low_enough : need ≤ sharing is low
    low_enough = pair_shared first low first_in (omega arith) first_meets

    high_enough : need ≤ sharing is high
    high_enough = pair_shared last high last_in last_meets (omega arith)

    high_near : high ≤ last_time
    high_near = timely is begins ends of last 0 (omega (arith, last_in, as_many is begins ends of))

    over : (time : ℕ) → need ≤ sharing is time → (low ≤ time) × (time ≤ high)
    over time h =
        let p = shared_pair time h in
        let after : first ≤ p.0 = elim (cases_lt p.0 first) [ inr g ↦ g | inl g ↦ absurd (omega (arith, none_before p.0 g, p.2, p.3)) ] in
        let before : p.0 ≤ last = elim (cases_lt last p.0) [ inr g ↦ g | inl g ↦ absurd (omega (arith, none_after p.0 g (omega (arith, all, p.1)), p.2, p.3)) ] in
        let ends_in : last < length ends = omega (arith, last_in, as_many is begins ends of) in
        (omega (arith, begins_rise (need - 1 + first) (need - 1 + p.0) 0 (omega (arith, after)) p.1, p.2), omega (arith, ends_rise p.0 last 0 before ends_in, p.3))

    pub spans : MatchOption (span_between low high) ((time : ℕ) → sharing is time < need) (Smallest need (sharing is))
    spans =
        elim (spanning low high) as (λ o _. MatchOption o ((time : ℕ) → sharing is time < need) (Smallest need (sharing is))) [
          | spanned p q ↦ record { some = (low, low_enough); all = over; none_smaller = λ other all. ((all low low_enough).0, (all high high_enough).1) }
          | backwards h ↦ absurd (let o = over low low_enough in omega (arith, o.1, h))
          | far h ↦ absurd (omega (arith, high_near, h))
        ]

-- what is left of a list, one step on
pub drop_next : (xs left rest : List ℕ) (j x : ℕ) → left ≡ drop j xs → left ≡ x ∷ rest → (j < length xs) × (get_or xs j 0 ≡ x) × (rest ≡ drop (j + 1) xs)
drop_next xs left rest j x at is =
    elim (cases_lt j (length xs)) [
      | inl h ↦ let same : x ∷ rest ≡ get_or xs j 0 ∷ drop (j + 1) xs = sym is ∙ at ∙ drop_more xs j 0 h in (h, cc, cc)
      | inr h ↦ absurd (let none : x ∷ rest ≡ [] = sym is ∙ at ∙ drop_of_length-le xs h in cc)
    ]

pub drop_ended : (xs left : List ℕ) (j : ℕ) → left ≡ drop j xs → length left ≡ 0 → length xs ≤ j
drop_ended xs left j at none = omega (arith, ap length at, length-drop j xs)

-- among the pairs so far of a beginning and an end, the first that meets, and the last
pub record Met (later ends : List ℕ) (j first last : ℕ) : Type 0 where
  pub first_in : first < length later
  pub last_in : last < length later
  pub first_meets : get_or later first 0 ≤ get_or ends first 0
  pub last_meets : get_or later last 0 ≤ get_or ends last 0
  pub none_before : (k : ℕ) → k < first → get_or ends k 0 < get_or later k 0
  pub none_after : (k : ℕ) → last < k → k < j → get_or ends k 0 < get_or later k 0

abbrev pub NoneMet : List ℕ → List ℕ → ℕ → Type 0
NoneMet later ends j = (k : ℕ) → k < j → get_or ends k 0 < get_or later k 0

abbrev pub SomeMet : List ℕ → List ℕ → ℕ → Option (ℕ × ℕ) → Type 0
SomeMet later ends j span = (first : ℕ) × (last : ℕ) × (span ≡ Some (get_or later first 0, get_or ends last 0)) × Met later ends j first last

abbrev pub Walked : List ℕ → List ℕ → ℕ → Option (ℕ × ℕ) → Type 0
Walked later ends j span = ((span ≡ None) × NoneMet later ends j) ⊎ SomeMet later ends j span

module _ (later ends : List ℕ) (j begin end : ℕ) (here : j < length later) (at_begin : get_or later j 0 ≡ begin) (at_end : get_or ends j 0 ≡ end) where
  -- what is so of each before and of this one
  one_more : (P : ℕ → Type 0) → ((k : ℕ) → k < j → P k) → P j → (k : ℕ) → k < j + 1 → P k
  one_more P before now k h = elim (cases_lt k j) [ inl g ↦ before k g | inr g ↦ let same : j ≡ k = omega arith in subst P same now ]

  pub walked_met : (span : Option (ℕ × ℕ)) → begin ≤ end → Walked later ends j span → Walked later ends (j + 1) (Some (stretched span begin end))
  walked_met span meets walked =
      elim walked [
        | inl none ↦ inr (j, j, ap (λ s. Some (stretched s begin end)) none.0 ∙ ap Some (λ i. (sym at_begin i, sym at_end i)), record { first_in = here; last_in = here; first_meets = omega arith; last_meets = omega arith; none_before = none.1; none_after = λ k h g. absurd (omega arith) })
        | inr some ↦
            let was = some.3 in
            inr (some.0, j, ap (λ s. Some (stretched s begin end)) some.2 ∙ ap (λ e. Some (get_or later some.0 0, e)) (sym at_end), record { first_in = was.first_in; last_in = here; first_meets = was.first_meets; last_meets = omega arith; none_before = was.none_before; none_after = λ k h g. absurd (omega arith) })
      ]

  pub walked_apart : (span : Option (ℕ × ℕ)) → end < begin → Walked later ends j span → Walked later ends (j + 1) span
  walked_apart span apart walked =
      let now : get_or ends j 0 < get_or later j 0 = omega arith in
      elim walked [
        | inl none ↦ inl (none.0, one_more (λ k. get_or ends k 0 < get_or later k 0) none.1 now)
        | inr some ↦
            let was = some.3 in
            inr (some.0, some.1, some.2, record { first_in = was.first_in; last_in = was.last_in; first_meets = was.first_meets; last_meets = was.last_meets; none_before = was.none_before; none_after = λ k h g. one_more (λ i. some.1 < i → get_or ends i 0 < get_or later i 0) (λ i b a. was.none_after i a b) (λ a. now) k g h })
      ]

-- what is left of the pairs after so many, and what those show
pub record Paired (later ends left_later left_ends : List ℕ) (j : ℕ) (span : Option (ℕ × ℕ)) : Type 0 where
  pub later_left : left_later ≡ drop j later
  pub ends_left_over : left_ends ≡ drop j ends
  pub walked : Walked later ends j span

module _ {later ends left_later left_ends next_later next_ends : List ℕ} {j k begin end : ℕ} {span : Option (ℕ × ℕ)} (so : Paired later ends left_later left_ends j span) (a : left_later ≡ begin ∷ next_later) (b : left_ends ≡ end ∷ next_ends) (more : k ≡ j + 1) where
  pub paired_met : begin ≤ end → Paired later ends next_later next_ends k (Some (stretched span begin end))
  paired_met meets =
      let x = drop_next later left_later next_later j begin so.later_left a in
      let y = drop_next ends left_ends next_ends j end so.ends_left_over b in
      subst (λ n. Paired later ends next_later next_ends n (Some (stretched span begin end))) (sym more)
      (record { later_left = x.2; ends_left_over = y.2; walked = walked_met later ends j begin end x.0 x.1 y.1 span meets so.walked })

  pub paired_apart : end < begin → Paired later ends next_later next_ends k span
  paired_apart apart =
      let x = drop_next later left_later next_later j begin so.later_left a in
      let y = drop_next ends left_ends next_ends j end so.ends_left_over b in
      subst (λ n. Paired later ends next_later next_ends n span) (sym more)
      (record { later_left = x.2; ends_left_over = y.2; walked = walked_apart later ends j begin end x.0 x.1 y.1 span apart so.walked })

module _ (is : List Interval) (begins ends : List ℕ) (of : BoundsOf is begins ends) (begins_rise : IsNonDecreasing begins) (ends_rise : IsNonDecreasing ends) (need : ℕ) (one : 1 ≤ need) where
  pub few_begin : length begins < need - 1 → (time : ℕ) → sharing is time < need
  few_begin few = none_met is begins ends of begins_rise ends_rise need one 0 (omega arith) (λ k h. absurd (omega arith))

  -- the pairs end with the beginnings, since no fewer ends were
  module _ {later paired_ends left_later left_ends : List ℕ} {j : ℕ} {span : Option (ℕ × ℕ)} (so : Paired later paired_ends left_later left_ends j span) (cut : later ≡ drop (need - 1) begins) (whole : paired_ends ≡ ends) (none_left : (length left_later ≡ 0) ⊎ (length left_ends ≡ 0)) where
    shifted : (k : ℕ) → get_or later k 0 ≡ get_or begins (need - 1 + k) 0
    shifted k = ap (λ l. get_or l k 0) cut ∙ get_or-drop (need - 1) begins k 0

    as_long : length later ≡ length begins - (need - 1)
    as_long = ap length cut ∙ length-drop (need - 1) begins

    all : length begins ≤ need - 1 + j
    all = elim none_left [
      | inl e ↦ omega (arith, drop_ended later left_later j so.later_left e, as_long)
      | inr e ↦ omega (arith, drop_ended paired_ends left_ends j so.ends_left_over e, ap length whole, as_many is begins ends of)
    ]

    walked_all : Walked later ends j span
    walked_all = subst (λ es. Walked later es j span) whole so.walked

    pub none_spanned : span ≡ None → (time : ℕ) → sharing is time < need
    none_spanned e = elim walked_all [
      | inl none ↦ none_met is begins ends of begins_rise ends_rise need one j all (λ k h. omega (arith, none.1 k h, shifted k))
      | inr some ↦ absurd (let no : None ≡ Some (get_or later some.0 0, get_or ends some.1 0) = sym e ∙ some.2 in cc)
    ]

    spans_met : (first last : ℕ) → Met later ends j first last → MatchOption (span_between (get_or later first 0) (get_or ends last 0)) ((time : ℕ) → sharing is time < need) (Smallest need (sharing is))
    spans_met first last met =
        subst (λ low. MatchOption (span_between low (get_or ends last 0)) ((time : ℕ) → sharing is time < need) (Smallest need (sharing is))) (sym (shifted first))
        (spans is begins ends of begins_rise ends_rise need one j first last all (omega (arith, met.first_in, as_long)) (omega (arith, met.last_in, as_long)) (omega (arith, met.first_meets, shifted first)) (omega (arith, met.last_meets, shifted last)) (λ k h. omega (arith, met.none_before k h, shifted k)) (λ k h g. omega (arith, met.none_after k h g, shifted k)))

    pub spans_all : (low high : ℕ) → span ≡ Some (low, high) → MatchOption (span_between low high) ((time : ℕ) → sharing is time < need) (Smallest need (sharing is))
    spans_all low high e = elim walked_all [
      | inl none ↦ absurd (let no : None ≡ Some (low, high) = sym none.0 ∙ e in cc)
      | inr some ↦
          let same : ◌≡◌ {A = Option (ℕ × ℕ)} (Some (get_or later some.0 0, get_or ends some.1 0)) (Some (low, high)) = sym some.2 ∙ e in
          let both : ◌≡◌ {A = ℕ × ℕ} (get_or later some.0 0, get_or ends some.1 0) (low, high) = cc in
          subst (λ s. MatchOption (span_between s.0 s.1) ((time : ℕ) → sharing is time < need) (Smallest need (sharing is))) both (spans_met some.0 some.1 some.3)
    ]

-- the ends that are left where each beginning leaves one out
abbrev pub ends_left : List ℕ → List ℕ → List ℕ
ends_left begins ends = fold without_ended ends begins

-- each that was left out ended before the time, or a beginning after the time left it out
left_enough : (time : ℕ) (begins ends : List ℕ) → length ends + count_by (λ n. leb n time) begins ≤ length (ends_left begins ends) + count_by (λ n. ltb n time) ends + length begins
left_enough time [] ends = omega arith
left_enough time (b ∷ bs) [] = let rest = left_enough time bs [] in let here : cond (leb b time) 1 0 ≤ 1 = grind (arith, nat_tests) in omega (arith, rest, here, sum_by-cons (λ n. cond (leb n time) 1 0) b bs)
left_enough time (b ∷ bs) (e ∷ es) =
    let gone = left_enough time bs es in
    let kept = left_enough time bs (e ∷ es) in
    let begun = sum_by-cons (λ n. cond (leb n time) 1 0) b bs in
    let ended = sum_by-cons (λ n. cond (ltb n time) 1 0) e es in
    grind (arith, nat_tests)

-- a list that rises goes on rising, above its first
rest_rises : (x : ℕ) (xs : List ℕ) → IsNonDecreasing (x ∷ xs) → IsNonDecreasing xs × All (λ y. x ≤ y) xs
rest_rises x xs rise = ((λ i j d h g. rise (suc i) (suc j) d (omega arith) (omega arith)), (λ k d h. rise 0 (suc k) d (omega arith) (omega arith)))

count_yes : (p : ℕ → Bool) (x : ℕ) (xs : List ℕ) → p x ≡ true → count_by p (x ∷ xs) ≡ 1 + count_by p xs
count_yes p x xs e = sum_by-cons (λ y. cond (p y) 1 0) x xs ∙ ap (λ b. cond b 1 0 + count_by p xs) e

count_most : (p : ℕ → Bool) (x : ℕ) (xs : List ℕ) → count_by p (x ∷ xs) ≤ 1 + count_by p xs
count_most p x xs = let here : cond (p x) 1 0 ≤ 1 = grind (arith, nat_tests) in omega (arith, here, sum_by-cons (λ y. cond (p y) 1 0) x xs)

-- either each beginning left one out, or so many share some beginning
record LeftShared (low : ℕ) (begins ends left : List ℕ) : Type 0 where
  time : ℕ
  above : low ≤ time
  shared : length left + count_by (λ n. ltb n time) ends + length begins ≤ count_by (λ n. leb n time) begins + length ends

left_shared : (low : ℕ) (begins ends : List ℕ) → IsNonDecreasing begins → IsNonDecreasing ends → All (λ b. low ≤ b) begins → length begins ≤ length ends → (length (ends_left begins ends) + length begins ≡ length ends) ⊎ LeftShared low begins ends (ends_left begins ends)
left_shared low [] ends begins_rise ends_rise above short = inl (omega arith)
left_shared low (b ∷ bs) [] begins_rise ends_rise above short = absurd (omega arith)
left_shared low (b ∷ bs) (e ∷ es) begins_rise ends_rise above short =
    let rest = rest_rises b bs begins_rise in
    by (ltb e b) refl (All-head (λ x. low ≤ x) b bs above) (left_shared b bs es rest.0 (rest_rises e es ends_rise).0 rest.1 (omega arith)) (left_shared b bs (e ∷ es) rest.0 ends_rise rest.1 (omega arith))
  where
    by : (x : Bool) → ltb e b ≡ x → low ≤ b → (length (ends_left bs es) + length bs ≡ length es) ⊎ LeftShared b bs es (ends_left bs es) → (length (ends_left bs (e ∷ es)) + length bs ≡ length (e ∷ es)) ⊎ LeftShared b bs (e ∷ es) (ends_left bs (e ∷ es)) → (length (ends_left (b ∷ bs) (e ∷ es)) + length (b ∷ bs) ≡ length (e ∷ es)) ⊎ LeftShared low (b ∷ bs) (e ∷ es) (ends_left (b ∷ bs) (e ∷ es))
    by true q h gone kept =
        let left : length (ends_left (b ∷ bs) (e ∷ es)) ≡ length (ends_left bs es) = ap (λ x. length (fold without_ended (cond x es (e ∷ es)) bs)) q in
        elim gone [
          | inl all ↦ inl (omega (arith, left, all))
          | inr found ↦ inr (record { time = found.time; above = omega (arith, found.above); shared = omega (arith, left, found.shared, count_most (λ n. ltb n found.time) e es, count_yes (λ n. leb n found.time) b bs (le-leb b found.time found.above)) })
        ]
    by false q h gone kept =
        let left : length (ends_left (b ∷ bs) (e ∷ es)) ≡ length (ends_left bs (e ∷ es)) = ap (λ x. length (fold without_ended (cond x es (e ∷ es)) bs)) q in
        elim kept [
          | inl all ↦
              let none = count_few (λ n. ltb n b) (e ∷ es) 0 (λ k d l g. le-ltb (get_or (e ∷ es) k d) b (omega (arith, ends_rise 0 k d (omega arith) g, ltb-false e b q))) in
              inr (record { time = b; above = h; shared = omega (arith, left, all, none, count_yes (λ n. leb n b) b bs (le-leb b b (omega arith))) })
          | inr found ↦ inr (record { time = found.time; above = omega (arith, found.above); shared = omega (arith, left, found.shared, count_yes (λ n. leb n found.time) b bs (le-leb b found.time found.above)) })
        ]

module _ (is : List Interval) (begins ends : List ℕ) (of : BoundsOf is begins ends) (begins_rise : IsNonDecreasing begins) (ends_rise : IsNonDecreasing ends) where
  never_more : (time : ℕ) → sharing is time ≤ length (ends_left begins ends)
  never_more time = omega (arith, left_enough time begins ends, shared_is is begins ends of time, as_many is begins ends of)

  pub most_is : Most (sharing is) (length (ends_left begins ends))
  most_is = record { attained = found; never_more = never_more }
    where
      found : (time : ℕ) × (sharing is time ≡ length (ends_left begins ends))
      found =
          elim (left_shared 0 begins ends begins_rise ends_rise (λ k d h. omega arith) (omega (arith, as_many is begins ends of))) [
            | inl all ↦ (0, omega (arith, all, never_more 0, as_many is begins ends of))
            | inr some ↦ (some.time, omega (arith, some.shared, never_more some.time, shared_is is begins ends of some.time, as_many is begins ends of))
          ]
