-- A clock's fault: its cause, its place, and its depth.
--   cause_number  the number of the cause on a line
--   arising       a fault where it arises
--   deeper        the fault after one layer more
use Rattle.std.specs.Prelude.{ℕ, ◌+◌, min}
use Rattle.rows.specs.declared.fault.Cause.{Cause}
use Rattle.rows.specs.declared.fault.Cause.TheVariants.{Unheard, TooFew, Crossed}
use Rattle.rows.specs.declared.fault.Fault.{Fault}

abbrev pub cause_number : Cause → ℕ
cause_number Unheard = 1
cause_number TooFew = 2
cause_number Crossed = 3

-- it has risen through no layer
abbrev pub arising : Cause → ℕ → Fault
arising cause place = record { cause = cause; place = place; depth = 0 }

-- depth 0 becomes 1, and 255 stays 255
abbrev pub deeper : Fault → Fault
deeper f = record { cause = f.cause; place = f.place; depth = min (f.depth + 1) 255 }
