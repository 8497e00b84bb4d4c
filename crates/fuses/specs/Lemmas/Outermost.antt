-- Of times that pass a test, the outermost on either side.
--   Side       which of two times is further out, and which is the outer of the two
--   Before     a time is at another or before it
--   After      a time is at another or after it
--   low        the side of the lower times
--   high       the side of the higher times
--   Outermost  a time passes, and no other that passes is further out
use Rattle.std.proofs.Common.{◌≡◌, ℕ, zero, suc, ◌<◌, ◌≤◌, min, max, Bool, true, not, ◌⊎◌, ⊎_elim, List, [], ◌∷◌, length, filter, fold, count_by, sym, refl, ◌∙◌, inl, inr, arith}
use Rattle.std.specs.List.{All, Contains}
use Rattle.std.proofs.lemmas.Bool.{both_ways, not-true, cases_lt}
use Rattle.std.proofs.lemmas.List.Elements.{All-nil, All-cons, All-head, All-tail, All-weaker, All-append, All-filter, All-contains, All-contains_itself, filter_passes}
use Rattle.std.proofs.lemmas.List.Sorted.{IsPermutation-sym, IsPermutation-filter_both, All-permutation}
use Rattle.std.proofs.lemmas.List.Sums.{length-filter}

-- of 5 and 9, on the low side: 5 is further out, and the outer one
pub record Side (Outer : ℕ → ℕ → Type 0) (outer : ℕ → ℕ → ℕ) : Type 0 where
  pub itself : (a : ℕ) → Outer a a
  pub chain : (a b c : ℕ) → Outer a b → Outer b c → Outer a c
  pub both : (at a b : ℕ) → Outer at (outer a b) → Outer at a × Outer at b
  pub one : (a b : ℕ) → (outer a b ≡ a) ⊎ (outer a b ≡ b)

abbrev pub Before : ℕ → ℕ → Type 0
Before at time = at ≤ time

abbrev pub After : ℕ → ℕ → Type 0
After at time = time ≤ at

pub low : Side Before min
low = record {
  itself = λ a. omega arith;
  chain = λ a b c h g. omega arith;
  both = λ at a b h. (omega arith, omega arith);
  one = λ a b. ⊎_elim (λ h. inl (omega arith)) (λ h. inr (omega arith)) (cases_lt a b);
}

pub high : Side After max
high = record {
  itself = λ a. omega arith;
  chain = λ a b c h g. omega arith;
  both = λ at a b h. (omega arith, omega arith);
  one = λ a b. ⊎_elim (λ h. inr (omega arith)) (λ h. inl (omega arith)) (cases_lt a b);
}

-- of 5, 9 and 12, where those above 6 pass: 9 on the low side, and 12 on the high side
pub record Outermost (Outer : ℕ → ℕ → Type 0) (passes : ℕ → Bool) (times : List ℕ) (at : ℕ) : Type 0 where
  pub among : Contains times at
  pub pass : passes at ≡ true
  pub first : (time : ℕ) → Contains times time → passes time ≡ true → Outer at time

-- what holds of all that pass holds of each that passes
all_passing : (passes : ℕ → Bool) (P : ℕ → Type 0) (times : List ℕ) → All P (filter passes times) → (time : ℕ) → Contains times time → passes time ≡ true → P time
all_passing passes P times all time among h =
    let Q : ℕ → Type 0 = λ time. passes time ≡ true → P time in
    let pass = All-weaker P Q (λ time h e. h) (filter passes times) all in
    let fail = All-weaker (λ time. not (passes time) ≡ true) Q (λ time h e. absurd (both_ways (passes time) (not-true (passes time) h) e)) _ (filter_passes (λ time. not (passes time)) times) in
    All-contains Q times time (All-permutation Q _ times (IsPermutation-sym times _ (IsPermutation-filter_both passes (λ time. not (passes time)) (λ time. refl) times)) (All-append Q (filter passes times) _ pass fail)) among h

module _ {Outer : ℕ → ℕ → Type 0} {outer : ℕ → ℕ → ℕ} (side : Side Outer outer) where
  -- the outermost of a start and of times
  abbrev pub Folded : ℕ → List ℕ → Type 0
  Folded start times = Contains (start ∷ times) (fold outer start times) × All (Outer (fold outer start times)) (start ∷ times)

  among_more : (start time at : ℕ) (times : List ℕ) → Contains (outer start time ∷ times) at → Contains (start ∷ time ∷ times) at
  among_more start time at times (zero, h, e) = ⊎_elim (λ s. (0, omega arith, sym s ∙ e)) (λ s. (1, omega arith, sym s ∙ e)) (side.one start time)
  among_more start time at times (suc k, h, e) = (suc (suc k), omega arith, e)

  pub folded : (start : ℕ) (times : List ℕ) → Folded start times
  folded start [] = ((0, omega arith, refl), All-cons (Outer start) start [] (side.itself start) (All-nil (Outer start)))
  folded start (time ∷ times) =
      let rest = folded (outer start time) times in
      let at : ℕ = fold outer (outer start time) times in
      let both = side.both at start time (All-head (Outer at) (outer start time) times rest.1) in
      (among_more start time at times rest.0, All-cons (Outer at) start (time ∷ times) both.0 (All-cons (Outer at) time times both.1 (All-tail (Outer at) (outer start time) times rest.1)))

  -- where the start is no further out than any time
  folded_from : (start : ℕ) (times : List ℕ) → All (λ time. outer start time ≡ time) times → 0 < length times → Contains times (fold outer start times) × All (Outer (fold outer start times)) times
  folded_from start [] inner some = absurd (omega arith)
  folded_from start (time ∷ times) inner some = rw (inner 0 time some) (folded time times)

  pub outermost : (passes : ℕ → Bool) (start : ℕ) (times : List ℕ) → All (λ time. outer start time ≡ time) times → 0 < count_by passes times → Outermost Outer passes times (fold outer start (filter passes times))
  outermost passes start times inner some =
      let found = folded_from start (filter passes times) (All-filter passes (λ time. outer start time ≡ time) times inner) (omega (arith, length-filter passes times)) in
      record {
        among = All-contains (Contains times) (filter passes times) _ (All-filter passes (Contains times) times (All-contains_itself times)) found.0;
        pass = All-contains (λ time. passes time ≡ true) (filter passes times) _ (filter_passes passes times) found.0;
        first = all_passing passes (Outer _) times found.1;
      }
