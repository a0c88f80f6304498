use Rattle.std.proofs.Common.{◌≡◌, ◌≤◌, length}
use Rattle.plan_memory.specs.Memories.{reduced}
use Rattle.plan_memory.proofs.memory.Memory.drop_worst.Given as goal

abbrev pub invariant-loop-self : goal.invariant-loop-self
invariant-loop-self l = (reduced l.size l.self ≡ reduced l.size l.initial.self)
    × (length l.initial.self.plans ≤ l.size → l.self ≡ l.initial.self)
    × (l.size ≤ length l.initial.self.plans → l.size ≤ length l.self.plans)

abbrev pub decreases-loop-self : goal.decreases-loop-self
decreases-loop-self l = length l.self.plans
