-- Bytes are read in one way only.
use Rattle.std.proofs.Common.{◌≡◌, ℕ, ◌≤◌, List, [], ◌∷◌, ◌++◌, length, Some, Ok, Err, Option, Result, refl, append_assoc, arith, le-leb}
use Rattle.std.specs.List.{flat_map}
use Rattle.std.specs.Option.{option_map}
use Rattle.std.proofs.lemmas.Nat.{from_be_bytes-to_be_bytes_8}
use Rattle.rows.specs.Exactly.{Exactly}
use Rattle.runs.specs.declared.command.Command.{Command}
use Rattle.schedule.specs.declared.stop.Stop.{Stop}
use Rattle.schedule.specs.Encoding.{encoding}
use Rattle.schedule.specs.Reading.{Reads, Splits, longest, Schedules}
use Rattle.schedule.proofs.Turns.{Sofar}

reads_one : (bs : List ℕ) (a b : Option (Result (Command × List ℕ) Stop)) → Reads bs a → Reads bs b → a ≡ b
reads_one bs a b x y = grind (arith, from_be_bytes-to_be_bytes_8)

-- the first command and what is left
first_of : (bs : List ℕ) (c : Command) (cs : List Command) (stop : Option Stop) → Splits bs (c ∷ cs, stop) → (rest : List ℕ) × Reads bs (Some (Ok (c, rest))) × Splits rest (cs, stop)
first_of bs c cs stop x = (
  flat_map encoding cs ++ x.tail,
  (x.each.0, rw append_assoc at x.whole),
  record { tail = x.tail; whole = refl; each = x.each.1; ends = x.ends },
)

none_left : (bs : List ℕ) (stop : Option Stop) → Splits bs ([], stop) → Reads bs (option_map Err stop)
none_left bs stop x = rw x.whole x.ends

same_pair : (c d : Command) (k l : List ℕ) → ◌≡◌ {A = Option (Result (Command × List ℕ) Stop)} (Some (Ok (c, k))) (Some (Ok (d, l))) → (c ≡ d) × (k ≡ l)
same_pair c d k l e = grind arith

splits_one : (bs : List ℕ) (cs ds : List Command) (s t : Option Stop) → Splits bs (cs, s) → Splits bs (ds, t) → (cs ≡ ds) × (s ≡ t)
splits_one bs [] [] s t x y = grind (arith, reads_one bs (option_map Err s) (option_map Err t) (none_left bs s x) (none_left bs t y))
splits_one bs [] (d ∷ ds) s t x y =
    let f = first_of bs d ds t y in
    grind (arith, reads_one bs (option_map Err s) (Some (Ok (d, f.0))) (none_left bs s x) f.1)
splits_one bs (c ∷ cs) [] s t x y =
    let f = first_of bs c cs s x in
    grind (arith, reads_one bs (option_map Err t) (Some (Ok (c, f.0))) (none_left bs t y) f.1)
splits_one bs (c ∷ cs) (d ∷ ds) s t x y =
    let f = first_of bs c cs s x in
    let g = first_of bs d ds t y in
    let same = same_pair c d f.0 g.0 (reads_one bs _ _ f.1 g.1) in
    let more = splits_one g.0 cs ds s t (rw same.1 at f.2) g.2 in
    grind (arith, same, more)

-- what was read so far and the rest, at which reading ends, is all that there is
pub all_found : (bs : List ℕ) (cs : List Command) (rest : List ℕ) (stop : Option Stop) → Sofar bs cs rest → Reads rest (option_map Err stop) → length bs ≤ longest → Exactly (Schedules bs) (cs, stop)
all_found bs cs rest stop sofar ends short =
    let found : Splits bs (cs, stop) = record { tail = rest; whole = sofar.0; each = sofar.1; ends = ends } in
    rw (le-leb (length bs) longest short) (found, λ other o. grind (arith, splits_one bs other.0 cs other.1 stop o found))
