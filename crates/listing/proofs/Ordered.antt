-- The lines of a run, worked out from the front, and that there are no others.
use Rattle.std.proofs.Common.{◌≡◌, ℕ, zero, suc, ◌+◌, List, [], ◌∷◌, length, drop, Some, Option, refl, zero-add, arith, length-append}
use Rattle.std.specs.List.{slice_get}
use Rattle.runs.specs.declared.event.Event.{Event}
use Rattle.schedule.specs.declared.stop.Stop.{Stop}
use Rattle.schedule.specs.Encoding.{form_of}
use Rattle.schedule.proofs.Widths.{width_is}
use Rattle.listing.specs.declared.line.Line.{Line}
use Rattle.listing.specs.Lines.{event_line, stop_lines, offset_of, InOrder}

-- from an offset on, which grows by the width of each command
abbrev pub lines : ℕ → List Event → Option Stop → List Line
lines offset [] stop = stop_lines offset stop
lines offset (e ∷ es) stop = event_line offset e ∷ lines (offset + (form_of e.command).width) es stop

-- past one more command
past : (offset : ℕ) (x : Event) (es : List Event) (place : ℕ) → (offset + (form_of x.command).width) + offset_of es place ≡ offset + offset_of (x ∷ es) (suc place)
past offset x es place = grind (arith, width_is x.command, length-append)

each_from : (offset : ℕ) (es : List Event) (stop : Option Stop) (place : ℕ) (e : Event) → slice_get es place ≡ Some e → slice_get (lines offset es stop) place ≡ Some (event_line (offset + offset_of es place) e)
each_from offset [] stop place e is = absurd cc
each_from offset (x ∷ es) stop zero e is = grind arith
each_from offset (x ∷ es) stop (suc place) e is = grind (arith, each_from (offset + (form_of x.command).width) es stop place e is, past)

last_from : (offset : ℕ) (es : List Event) (stop : Option Stop) → drop (length es) (lines offset es stop) ≡ stop_lines (offset + offset_of es (length es)) stop
last_from offset [] stop = grind arith
last_from offset (x ∷ es) stop = grind (arith, last_from (offset + (form_of x.command).width) es stop, past)

pub lines_in_order : (es : List Event) (stop : Option Stop) → InOrder es stop (lines 0 es stop)
lines_in_order es stop = record { each = simp zero-add at (each_from 0 es stop); last = simp zero-add at (last_from 0 es stop) }

only_from : (offset : ℕ) (es : List Event) (stop : Option Stop) (ls : List Line) → ((place : ℕ) (e : Event) → slice_get es place ≡ Some e → slice_get ls place ≡ Some (event_line (offset + offset_of es place) e)) → drop (length es) ls ≡ stop_lines (offset + offset_of es (length es)) stop → ls ≡ lines offset es stop
only_from offset [] stop ls each last = grind arith
only_from offset (x ∷ es) stop [] each last = grind (arith, each 0 x refl)
only_from offset (x ∷ es) stop (l ∷ ls) each last =
    let rest =
    only_from (offset + (form_of x.command).width) es stop ls
    (λ place e is. grind (arith, each (suc place) e is, past))
    (grind (arith, past)) in
    grind (arith, each 0 x refl, rest)

-- no other lines are in order
pub only_lines : (es : List Event) (stop : Option Stop) (ls : List Line) → InOrder es stop ls → ls ≡ lines 0 es stop
only_lines es stop ls o = only_from 0 es stop ls (simp zero-add o.each) (simp zero-add o.last)
