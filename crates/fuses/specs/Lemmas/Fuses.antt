-- A fuse over a bank that keeps the meaning of its members keeps the meaning of a clock.
use Rattle.std.proofs.Common.{◌≡◌, ℕ, zero, suc, ◌+◌, ◌-◌, ◌≤◌, Bool, true, false, cond, not, ◌&&◌, ◌||◌, ltb, List, [], ◌∷◌, map, is_ok, Ok, Err, sym, refl, ap, ◌∙◌, subst, arith}
use mathlib.Core.Path.{fun_ext}
use Rattle.std.specs.List.{range_with_len}
use Rattle.std.proofs.lemmas.Bool.{cond_both, leb-true, le-leb, ltb-true, or_left, or_right, lt-ltb}
use Rattle.std.proofs.lemmas.List.Elements.{All-map}
use Rattle.rows.specs.declared.pair.Pair.{Pair}
use Rattle.clocks.specs.declared.bank.Bank.{Ghosts as Bank}
use Rattle.clocks.specs.declared.interval.Interval.{Interval}
use Rattle.clocks.specs.History.{Instant, Rising, after, NothingHeard}
use Rattle.clocks.specs.Intervals.{Reading, Holds, Unread}
use Rattle.clocks.specs.Meaning.{Keeps, KeepsMembers}
use Rattle.fuses.specs.declared.fuse.Fuse.{Fuse}
use Rattle.fuses.specs.Fuses.{need, members, fuse_over, fuse_made, fuse_next, errs, erring, not_erring, fuse_truth, Means, Tolerates}
use Rattle.fuses.specs.Sharing.{intervals_of, sharing, Fuses, fused}
use Rattle.fuses.specs.Lemmas.Asked.{first_intervals, sharing_more, none_read}
use Rattle.fuses.specs.Lemmas.Readings.{holds_within, fused_right, fused_exactly}

pub need_some : (size tolerated : ℕ) → 1 ≤ need size tolerated
need_some size tolerated = cond_both (ltb tolerated size) (size - tolerated) 1 (λ n. 1 ≤ n) (λ e. let less = ltb-true tolerated size e in omega arith) (λ e. omega arith)

-- where there is no reading too few meet
none_fused : (n : ℕ) (is : List Interval) (r : Reading) → 1 ≤ n → is ≡ [] → Fuses n (sharing is) r → Unread r
none_fused n is (Ok i) h e f = let none : n ≤ 0 = rw e at f.some.1 in omega arith
none_fused n is (Err fault) h e f = tt

unread_not_ok : (r : Reading) → Unread r → not (is_ok r) ≡ true
unread_not_ok (Ok i) u = absurd u
unread_not_ok (Err fault) u = refl

-- a reading that is fused holds each time that enough readings hold; without a reading there is nothing to hold
fused_holds : (n : ℕ) (is : List Interval) (time : ℕ) (r : Reading) (enough : Bool) → Fuses n (sharing is) r → (not (is_ok r) || enough) ≡ true → (enough ≡ true → n ≤ sharing is time) → Holds r time
fused_holds n is time (Ok i) enough f e h = f.all time (h e)
fused_holds n is time (Err fault) enough f e h = tt

module _ {B : Type 0} (bank : Bank B) (keeps : KeepsMembers bank.size bank.fresh bank.next bank.reading bank.truth) where
  size_after : (b : B) (is : List Instant) → bank.size (after bank.next b is) ≡ bank.size b
  size_after b [] = refl
  size_after b (i ∷ before) = keeps.next_size (after bank.next b before) i.pairs ∙ size_after b before

  -- what it was before does not matter to a fuse
  fuse_after : (b : B) (tolerated : ℕ) (is : List Instant) → after (fuse_next bank) (fuse_over bank b tolerated) is ≡ fuse_over bank (after bank.next b is) tolerated
  fuse_after b tolerated [] = refl
  fuse_after b tolerated (i ∷ before) = ap (λ f. fuse_next bank f i.pairs) (fuse_after b tolerated before)

  -- a member that does not err holds true time
  one_holds : (b : B) (i : Instant) (before : List Instant) → Rising (i ∷ before) → (member : ℕ) → cond (errs bank (bank.fresh b) (i ∷ before) member) 0 1 ≤ sharing (intervals_of (bank.reading (after bank.next (bank.fresh b) (i ∷ before)) member ∷ [])) i.time
  one_holds b i before rises member = by (bank.reading state member) refl (bank.truth (bank.fresh b) member (i ∷ before)) refl
    where
      state : B
      state = after bank.next (bank.fresh b) (i ∷ before)

      by : (r : Reading) → bank.reading state member ≡ r → (good : Bool) → bank.truth (bank.fresh b) member (i ∷ before) ≡ good → cond (not (is_ok r && good)) 0 1 ≤ sharing (intervals_of (r ∷ [])) i.time
      by (Err fault) e good g = omega arith
      by (Ok x) e false g = omega arith
      by (Ok x) e true g = let at : Holds (Ok x) i.time = rw e at ((keeps.each b member).holds i before rises g) in rw (holds_within x i.time at.0 at.1) (omega arith)

  all_hold : (b : B) (i : Instant) (before : List Instant) → Rising (i ∷ before) → (n : ℕ) → not_erring bank (bank.fresh b) (i ∷ before) n ≤ sharing (first_intervals (bank.reading (after bank.next (bank.fresh b) (i ∷ before))) n) i.time
  all_hold b i before rises zero = omega arith
  all_hold b i before rises (suc n) = let rest = all_hold b i before rises n in let one = one_holds b i before rises n in omega (arith, sharing_more (bank.reading (after bank.next (bank.fresh b) (i ∷ before))) n i.time)

  fuse_reads : (b : B) (tolerated : ℕ) (is : List Instant) → (after (fuse_next bank) (fuse_made bank b tolerated) is).reading ≡ fused (need (bank.size (after bank.next (bank.fresh b) is)) tolerated) (intervals_of (members bank (after bank.next (bank.fresh b) is)))
  fuse_reads b tolerated is = ap (λ f. f.reading) (fuse_after (bank.fresh b) tolerated is)

  fuse_holds : (b : B) (tolerated : ℕ) (i : Instant) (before : List Instant) → Rising (i ∷ before) → fuse_truth bank (fuse_made bank b tolerated) (i ∷ before) ≡ true → Holds (after (fuse_next bank) (fuse_made bank b tolerated) (i ∷ before)).reading i.time
  fuse_holds b tolerated i before rises true_now =
      let state = after bank.next (bank.fresh b) (i ∷ before) in
      let is = first_intervals (bank.reading state) (bank.size state) in
      let n = need (bank.size state) tolerated in
      let same = size_after (bank.fresh b) (i ∷ before) in
      let all = all_hold b i before rises (bank.size state) in
      fused_holds n is i.time _ _ (subst (Fuses n (sharing is)) (sym (fuse_reads b tolerated (i ∷ before))) (fused_right is n (need_some (bank.size state) tolerated))) true_now (λ enough. let most = leb-true _ _ (rw (← same) at enough) in omega arith)

  fuse_unread : (b : B) (tolerated : ℕ) → Unread (fuse_made bank b tolerated).reading
  fuse_unread b tolerated =
      let n = need (bank.size (bank.fresh b)) tolerated in
      let is = intervals_of (members bank (bank.fresh b)) in
      let some = need_some (bank.size (bank.fresh b)) tolerated in
      let none = none_read _ (All-map Unread (bank.reading (bank.fresh b)) (range_with_len 0 (bank.size (bank.fresh b))) (λ k d h. (keeps.each b _).starts_unread)) in
      none_fused n is (fused n is) some none (fused_right is n some)

  fuse_unheard : (b : B) (tolerated : ℕ) (pairs : List Pair) → NothingHeard pairs → (fuse_next bank (fuse_made bank b tolerated) pairs).reading ≡ (fuse_made bank b tolerated).reading
  fuse_unheard b tolerated pairs none =
      let size = keeps.next_size (bank.fresh b) pairs in
      let readings : bank.reading (bank.next (bank.fresh b) pairs) ≡ bank.reading (bank.fresh b) = fun_ext (λ member. (keeps.each b member).starts_unheard pairs none) in
      (λ k. fused (need (size k) tolerated) (intervals_of (map (readings k) (range_with_len 0 (size k)))))

  pub fuse_keeps : (made : Fuse B) → Keeps (λ f. fuse_made bank f.bank f.tolerated) (fuse_next bank) (λ f. f.reading) (fuse_truth bank) made
  fuse_keeps made = record {
    holds = fuse_holds made.bank made.tolerated;
    starts_true = or_left (not (is_ok (fuse_made bank made.bank made.tolerated).reading)) _ (unread_not_ok _ (fuse_unread made.bank made.tolerated));
    starts_unread = fuse_unread made.bank made.tolerated;
    starts_unheard = fuse_unheard made.bank made.tolerated;
    forgets = λ pairs. ap (λ b. fuse_over bank b made.tolerated) ((keeps.each made.bank 0).forgets pairs);
    settles = ap (λ b. fuse_over bank b made.tolerated) (keeps.each made.bank 0).settles;
  }

pub fuse_means : {B : Type 0} (bank : Bank B) (b : B) (tolerated : ℕ) → Means bank (fuse_over bank b tolerated)
fuse_means bank b tolerated = fused_exactly (intervals_of (members bank b)) _ (need_some (bank.size b) tolerated)

-- every member errs or does not
split_members : {B : Type 0} (bank : Bank B) (b : B) (is : List Instant) (n : ℕ) → erring bank b is n + not_erring bank b is n ≡ n
split_members bank b is zero = omega arith
split_members bank b is (suc n) = let rest = split_members bank b is n in elim (errs bank b is n) as (λ e. (cond e 1 0 + erring bank b is n) + (cond e 0 1 + not_erring bank b is n) ≡ suc n) [ true ↦ omega arith | false ↦ omega arith ]

pub fuse_tolerates : {B : Type 0} (bank : Bank B) (f : Fuse B) → Tolerates bank f
fuse_tolerates bank f is less few =
    or_right (not (is_ok (after (fuse_next bank) f is).reading)) _
    (rw (lt-ltb f.tolerated (bank.size f.bank) less) (le-leb _ _ (let all = split_members bank f.bank is (bank.size f.bank) in omega arith)))
