use Rattle.std.proofs.Common.{◌≡◌, length}
use Rattle.signals.specs.Spans.{ascend}
use Rattle.signals.proofs.spans.ascend.Given as goal

abbrev pub invariant-loop-rest : goal.invariant-loop-rest
invariant-loop-rest l = ascend l.cycle l.here l.rest ≡ ascend l.cycle 0 l.spans

abbrev pub decreases-loop-rest : goal.decreases-loop-rest
decreases-loop-rest l = length l.rest
