-- What is left of the pairs, and what the pairs so far show.
use Rattle.std.proofs.Common.{length}
use Rattle.fuses.proofs.Bounds.{Paired}
use Rattle.fuses.proofs.fuse.bounds.Bounds.span_shared.Given as goal

abbrev pub invariant-loop-begin : goal.invariant-loop-begin
invariant-loop-begin l = Paired l.initial.begin-iterator.a.rest.now l.initial.begin-iterator.b.rest.now l.begin-iterator.a.rest.now l.begin-iterator.b.rest.now (length l.yielded) l.span
