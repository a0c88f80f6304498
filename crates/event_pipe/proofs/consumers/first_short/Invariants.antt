use Rattle.std.proofs.Common.{ℕ, ◌<◌, length}
use Rattle.event_pipe.specs.Rings.{waiting, AreLooked}
use Rattle.event_pipe.proofs.consumers.first_short.Given as goal

abbrev pub invariant-loop-place : goal.invariant-loop-place
invariant-loop-place g l = AreLooked l.initial.rings l.rings × ((q : ℕ) → q < l.place → 0 < length (waiting l.rings q))
