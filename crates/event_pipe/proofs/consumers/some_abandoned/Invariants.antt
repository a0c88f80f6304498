use Rattle.event_pipe.specs.Rings.{AreLooked}
use Rattle.event_pipe.proofs.consumers.some_abandoned.Given as goal

abbrev pub invariant-loop-place : goal.invariant-loop-place
invariant-loop-place g l = AreLooked l.initial.rings l.rings
