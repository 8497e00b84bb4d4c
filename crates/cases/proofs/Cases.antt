-- The worked cases hold.
use Rattle.std.proofs.Common.{◌≡◌, ℕ, leb, [], ◌∷◌, Some, None, Ok, Err, Option, sym, ap, ◌∙◌, lit≤}
use Rattle.std.proofs.Math.Dec.{T}
use Rattle.rows.specs.declared.fault.Fault.{Fault}
use Rattle.rows.specs.Limits.{last_time}
use Rattle.clocks.specs.declared.interval.Interval.{Interval}
use Rattle.clocks.specs.Hulls.{crossed, hull_step}
use Rattle.clocks.specs.Intervals.{Reading, span, span_or}
use Rattle.clocks.specs.References.{unheard_on}
use Rattle.clocks.specs.Lemmas.Spans.{span_is, span_backwards}
use Rattle.fuses.specs.Sharing.{too_few}
use Rattle.holdovers.specs.Holdovers.{choose, adopted_with, own_with, lost_with}
use Rattle.cases.specs.Worked.{reads, Seen, seen, fuse, based, WorkedCases}

abbrev literal : (e l : ℕ) → T (leb e l) → T (leb l last_time) → Interval
literal e l p q = record { earliest = e; latest = l; ordered = lit≤ p; within = lit≤ q }

spanned : (e l : ℕ) (p : T (leb e l)) (q : T (leb l last_time)) → span e l ≡ Some (literal e l p q)
spanned e l p q = sym (span_is e l (lit≤ p) (lit≤ q))

abbrev or_fault : Fault → Option Interval → Reading
or_fault fault o = elim o [ Some i ↦ Ok i | None ↦ Err fault ]

at : (e l : ℕ) (p : T (leb e l)) (q : T (leb l last_time)) → reads e l ≡ Ok (literal e l p q)
at e l p q = ap (or_fault crossed) (spanned e l p q)

-- a fuse of literal readings, of which two meet
shown : (e l : ℕ) → T (leb e l) → T (leb l last_time) → seen (span_or e l (too_few 2)) ≡ Ok (e, l)
shown e l p q = ap (λ o. seen (or_fault (too_few 2) o)) (spanned e l p q)

-- a holdover of rate 200 over its own interval, if there is one
abbrev over_own : ℕ → Option Interval → Seen
over_own count own = seen (choose own (Err (unheard_on 0)) (adopted_with (Some count)) (own_with (Some (based 7 9)) (Some count)) lost_with).reading

held : (count e l : ℕ) → T (leb e l) → T (leb l last_time) → over_own count (span e l) ≡ Ok (e, l)
held count e l p q = ap (over_own count) (spanned e l p q)

pub worked : WorkedCases
worked = record {
  two_of_three_agree = (λ k. seen (fuse 1 (at 100 110 tt tt k ∷ at 105 115 tt tt k ∷ at 300 310 tt tt k ∷ []))) ∙ shown 105 110 tt tt;
  ends_that_touch_meet = (λ k. seen (fuse 0 (at 10 20 tt tt k ∷ at 20 30 tt tt k ∷ []))) ∙ shown 20 20 tt tt;
  apart_too_few_meet = λ k. seen (fuse 0 (at 10 20 tt tt k ∷ at 21 30 tt tt k ∷ []));
  a_gap_is_bridged = (λ k. seen (fuse 1 (at 0 10 tt tt k ∷ at 20 30 tt tt k ∷ at 5 25 tt tt k ∷ []))) ∙ shown 5 25 tt tt;
  before_the_first_drift = held 4999 5006 5008 tt tt;
  at_the_first_drift = held 5000 5006 5010 tt tt;
  kept_time_rises = ap (λ r. (hull_step 0 r).0) (at 50 90 tt tt);
  kept_time_stays = ap (λ r. (hull_step 50 r).0) (at 40 80 tt tt);
  read_from_kept_time = ap (λ r. seen (hull_step 50 r).1) (at 40 80 tt tt) ∙ ap seen (at 50 80 tt tt);
  crossed_below_kept_time = ap (λ r. seen (hull_step 50 r).1) (at 10 49 tt tt) ∙ ap (λ o. seen (or_fault crossed o)) (span_backwards 50 49 (lit≤ tt));
}
