use Rattle.std.proofs.Common.{◌≡◌, length}
use Rattle.part_seconds.specs.Settling.{put_queues}
use Rattle.part_seconds.proofs.settling.put_queues.Given as goal

abbrev pub invariant-loop-rest : goal.invariant-loop-rest
invariant-loop-rest l = put_queues l.links l.rest l.queues ≡ put_queues l.links l.slots l.initial.queues

abbrev pub decreases-loop-rest : goal.decreases-loop-rest
decreases-loop-rest l = length l.rest
