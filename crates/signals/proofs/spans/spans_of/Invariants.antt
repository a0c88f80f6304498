use Rattle.std.proofs.Common.{◌≡◌, ◌++◌, length, map}
use Rattle.signals.specs.Spans.{span_of}
use Rattle.signals.proofs.spans.spans_of.Given as goal

abbrev pub invariant-loop-rest : goal.invariant-loop-rest
invariant-loop-rest l = l.spans.items ++ map span_of l.rest ≡ map span_of l.texts

abbrev pub decreases-loop-rest : goal.decreases-loop-rest
decreases-loop-rest l = length l.rest
