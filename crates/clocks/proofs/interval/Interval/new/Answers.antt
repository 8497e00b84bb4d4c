-- The interval made is the one that the ends span.
use Rattle.clocks.specs.Lemmas.Spans.{span_is}
use Rattle.clocks.proofs.interval.Interval.new.Goals as goal

pub returns-then-earliest-latest : goal.returns-then-earliest-latest
returns-then-earliest-latest c = span_is c.args.earliest c.args.latest _ _
