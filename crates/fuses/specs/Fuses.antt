-- A fuse reads what enough members of a bank agree on.
--   need             how many members have to agree
--   usual_tolerance  how many may err, unless it is said
--   members          what the members of a bank answer, in their order
--   fuse_over        a fuse over a bank as it stands
--   fuse_made        a fuse over a bank made fresh
--   fuse_next        after one instant more
--   Means            its reading, and nothing else, is what the members' readings fuse to
--   errs             a member has no reading, or is not true
--   erring           how many members err
--   not_erring       how many do not
--   fuse_truth       true without a reading, or if enough members do not err
--   Tolerates        true while no more members err than are tolerated
use Rattle.std.specs.Prelude.{◌≡◌, ℕ, zero, suc, ◌+◌, ◌-◌, ◌<◌, ◌≤◌, Bool, true, cond, not, ◌&&◌, ◌||◌, List, map, is_ok, nat_le, nat_lt}
use Rattle.std.specs.List.{range_with_len}
use Rattle.rows.specs.declared.pair.Pair.{Pair}
use Rattle.rows.specs.Exactly.{Exactly}
use Rattle.clocks.specs.declared.bank.Bank.{Ghosts as Bank}
use Rattle.clocks.specs.History.{Instant, after}
use Rattle.clocks.specs.Intervals.{Reading}
use Rattle.fuses.specs.declared.fuse.Fuse.{Fuse}
use Rattle.fuses.specs.Sharing.{intervals_of, sharing, Fuses, fused}

-- 3 members of which 1 may err: 2; 2 of which 2 may err: 1
abbrev pub need : ℕ → ℕ → ℕ
need size tolerated = cond (nat_lt tolerated size) (size - tolerated) 1

-- a fuse made without a number tolerates this many
abbrev pub usual_tolerance : ℕ
usual_tolerance = 1

module _ {B : Type 0} (bank : Bank B) where
  abbrev pub members : B → List Reading
  members b = map (bank.reading b) (range_with_len 0 (bank.size b))

  abbrev pub fuse_over : B → ℕ → Fuse B
  fuse_over b tolerated = record { bank = b; tolerated = tolerated; reading = fused (need (bank.size b) tolerated) (intervals_of (members b)) }

  abbrev pub fuse_made : B → ℕ → Fuse B
  fuse_made b tolerated = fuse_over (bank.fresh b) tolerated

  abbrev pub fuse_next : Fuse B → List Pair → Fuse B
  fuse_next f pairs = fuse_over (bank.next f.bank pairs) f.tolerated

  -- its reading is what the readings of the members fuse to, and nothing else is
  abbrev pub Means : Fuse B → Type 0
  Means f = Exactly (Fuses (need (bank.size f.bank) f.tolerated) (sharing (intervals_of (members f.bank)))) f.reading

  -- of a bank as made, after these instants
  abbrev pub errs : B → List Instant → ℕ → Bool
  errs b is member = not (is_ok (bank.reading (after bank.next b is) member) && bank.truth b member is)

  -- among the first so many members
  abbrev pub not_erring : B → List Instant → ℕ → ℕ
  not_erring b is zero = 0
  not_erring b is (suc member) = cond (errs b is member) 0 1 + not_erring b is member

  abbrev pub erring : B → List Instant → ℕ → ℕ
  erring b is zero = 0
  erring b is (suc member) = cond (errs b is member) 1 0 + erring b is member

  abbrev pub fuse_truth : Fuse B → List Instant → Bool
  fuse_truth f is = not (is_ok (after fuse_next f is).reading) || nat_le (need (bank.size f.bank) f.tolerated) (not_erring f.bank is (bank.size f.bank))

  -- of 3 members of which 1 may err, the fuse is true while at most 1 errs
  abbrev pub Tolerates : Fuse B → Type 0
  Tolerates f = (is : List Instant) → f.tolerated < bank.size f.bank → erring f.bank is (bank.size f.bank) ≤ f.tolerated → fuse_truth f is ≡ true
