-- What readings share is what their beginnings and ends say, and fuses to what is worked out from these.
use Rattle.std.proofs.Common.{◌≡◌, ℕ, suc, ◌+◌, ◌≤◌, min, max, Bool, true, false, cond, not, ltb, leb, List, [], ◌∷◌, length, get_or, map, filter, fold, count_by, sym, refl, ap, subst, arith}
use mathlib.Core.Path.{fun_ext}
use Rattle.std.specs.List.{All, Contains}
use Rattle.std.specs.List.Sorted.{IsPermutation}
use Rattle.std.proofs.lemmas.Bool.{leb-true, le-leb, ltb-true, ltb-false, lt-ltb, and_from, not-true, true_from_ne_false}
use Rattle.std.proofs.lemmas.Bool.Decides.{nat_tests}
use Rattle.std.proofs.lemmas.List.{length-map}
use Rattle.std.proofs.lemmas.List.Elements.{All-map}
use Rattle.std.proofs.lemmas.List.Filters.{length-filter_both}
use Rattle.std.proofs.lemmas.List.Sums.{sum_by-cons, length-filter, count_by-le-length}
use Rattle.std.proofs.lemmas.List.Sorted.{IsPermutation-refl, All-permutation, length_permutation, sum_by-IsPermutation}
use Rattle.rows.specs.Exactly.{Exactly}
use Rattle.rows.specs.Limits.{last_time}
use Rattle.clocks.specs.declared.interval.Interval.{Interval}
use Rattle.clocks.specs.Intervals.{within}
use Rattle.fuses.specs.Sharing.{sharing, Fuses, fused_from, fused, shared_by}
use Rattle.fuses.specs.Lemmas.Meaning.{Covers, times_fuse, only}
use Rattle.fuses.specs.Lemmas.Outermost.{Before, After, low, high, outermost}

pub holds_within : (i : Interval) (time : ℕ) → i.earliest ≤ time → time ≤ i.latest → within i time ≡ true
holds_within i time h g = and_from _ _ (le-leb i.earliest time h) (le-leb time i.latest g)

one_at_most : (a b : Bool) → (a ≡ true → b ≡ true) → cond a 1 0 ≤ cond b 1 0
one_at_most true b h = subst (λ x. 1 ≤ cond x 1 0) (sym (h refl)) (omega arith)
one_at_most false b h = omega arith

-- where each that passes one test passes another, no more pass the one
pub count_at_most : (p q : ℕ → Bool) (xs : List ℕ) → ((x : ℕ) → Contains xs x → p x ≡ true → q x ≡ true) → count_by p xs ≤ count_by q xs
count_at_most p q [] all = omega arith
count_at_most p q (x ∷ xs) all =
    let first = one_at_most (p x) (q x) (all x (0, omega arith, refl)) in
    let rest = count_at_most p q xs (λ y c. all y (suc c.0, omega (arith, c.1), c.2)) in
    omega (arith, sum_by-cons (λ x. cond (p x) 1 0) x xs, sum_by-cons (λ x. cond (q x) 1 0) x xs)

module _ (begins ends : List ℕ) where
  -- at the last beginning up to a time as many have begun, and no more have ended
  begins_cover : Covers (shared_by begins ends) Before begins
  begins_cover time some =
      let at : ℕ = fold max 0 (filter (λ n. leb n time) begins) in
      let last = outermost high (λ n. leb n time) 0 begins (λ k d h. omega arith) (omega arith) in
      let early = leb-true at time last.pass in
      let begun = count_at_most (λ n. leb n time) (λ n. leb n at) begins (λ n c e. le-leb n at (last.first n c e)) in
      let ended = count_at_most (λ n. ltb n at) (λ n. ltb n time) ends (λ n c e. lt-ltb n time (omega (arith, ltb-true n at e))) in
      (at, last.among, early, omega arith)

  -- at the first end from a time on no more have ended, and as many have begun; no one lemma with the one above, since ends are counted by another test than beginnings
  ends_cover : length begins ≡ length ends → All (λ n. n ≤ last_time) ends → Covers (shared_by begins ends) After ends
  ends_cover same near time some =
      let lasts : ℕ → Bool = λ n. not (ltb n time) in
      let at : ℕ = fold min last_time (filter lasts ends) in
      let parts = length-filter_both (λ n. ltb n time) lasts (λ n. refl) ends in
      let first = outermost low lasts last_time ends (λ k d h. let n = near k d h in omega arith) (omega (arith, length-filter lasts ends, length-filter (λ n. ltb n time) ends, count_by-le-length (λ n. leb n time) begins)) in
      let late = ltb-false at time (not-true (ltb at time) first.pass) in
      let begun = count_at_most (λ n. leb n time) (λ n. leb n at) begins (λ n c e. le-leb n at (omega (arith, leb-true n time e))) in
      let ended = count_at_most (λ n. ltb n at) (λ n. ltb n time) ends (λ n c e. true_from_ne_false (ltb n time) (λ no. let out = first.first n c (ap not no) in omega (arith, ltb-true n at e))) in
      (at, first.among, late, omega arith)

-- a reading has begun by a time where it holds the time or has ended before it
one_interval : (i : Interval) (time : ℕ) → cond (within i time) 1 0 + cond (ltb i.latest time) 1 0 ≡ cond (leb i.earliest time) 1 0
one_interval i time = let order : i.earliest ≤ i.latest = i.ordered in grind (arith, nat_tests)

all_intervals : (is : List Interval) (time : ℕ) → sharing is time + count_by (λ n. ltb n time) (map (λ i. i.latest) is) ≡ count_by (λ n. leb n time) (map (λ i. i.earliest) is)
all_intervals [] time = omega arith
all_intervals (i ∷ is) time =
    let first = one_interval i time in
    let rest = all_intervals is time in
    omega (arith, sum_by-cons (λ n. cond (ltb n time) 1 0) i.latest (map (λ i. i.latest) is), sum_by-cons (λ n. cond (leb n time) 1 0) i.earliest (map (λ i. i.earliest) is))

-- the ends of readings, in any order
module _ (is : List Interval) (begins ends : List ℕ) (same_begins : IsPermutation (map (λ i. i.earliest) is) begins) (same_ends : IsPermutation (map (λ i. i.latest) is) ends) where
  pub shared_is : shared_by begins ends ≡ sharing is
  shared_is = fun_ext (λ time. omega (arith, all_intervals is time, sum_by-IsPermutation (λ n. cond (leb n time) 1 0) _ begins same_begins, sum_by-IsPermutation (λ n. cond (ltb n time) 1 0) _ ends same_ends))

  counted_right : (need : ℕ) → 1 ≤ need → Fuses need (sharing is) (fused_from need (shared_by begins ends) begins ends)
  counted_right need one = subst (λ shares. Fuses need shares (fused_from need (shared_by begins ends) begins ends)) shared_is (times_fuse need (shared_by begins ends) one begins ends (begins_cover begins ends) (ends_cover begins ends as_many near_ends) near_begins near_ends)
    where
      near_begins : All (λ n. n ≤ last_time) begins
      near_begins = All-permutation (λ n. n ≤ last_time) _ begins same_begins (All-map (λ n. n ≤ last_time) (λ i. i.earliest) is (λ k d h. let order = (get_or is k d).ordered in let near = (get_or is k d).within in omega arith))

      near_ends : All (λ n. n ≤ last_time) ends
      near_ends = All-permutation (λ n. n ≤ last_time) _ ends same_ends (All-map (λ n. n ≤ last_time) (λ i. i.latest) is (λ k d h. (get_or is k d).within))

      as_many : length begins ≡ length ends
      as_many = omega (arith, length_permutation _ begins same_begins, length_permutation _ ends same_ends, length-map is (λ i. i.earliest), length-map is (λ i. i.latest))

module _ (is : List Interval) (need : ℕ) (one : 1 ≤ need) where
  pub fused_right : Fuses need (sharing is) (fused need is)
  fused_right =
      let begins = map (λ i. i.earliest) is in
      let ends = map (λ i. i.latest) is in
      let same_begins = IsPermutation-refl begins in
      let same_ends = IsPermutation-refl ends in
      subst (λ shares. Fuses need (sharing is) (fused_from need shares begins ends)) (shared_is is begins ends same_begins same_ends) (counted_right is begins ends same_begins same_ends need one)

  pub fused_exactly : Exactly (Fuses need (sharing is)) (fused need is)
  fused_exactly = (fused_right, λ other f. only need (sharing is) other (fused need is) f fused_right)
