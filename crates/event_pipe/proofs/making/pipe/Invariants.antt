use Rattle.std.proofs.Common.{◌≡◌, length}
use Rattle.event_pipe.proofs.Made.{AreMade}
use Rattle.event_pipe.proofs.making.pipe.Given as goal

abbrev pub invariant-loop-partition : goal.invariant-loop-partition
invariant-loop-partition g l = (length l.senders.items ≡ l.partition) × AreMade l.room 0 l.senders.items l.rings.items
