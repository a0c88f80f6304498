use Rattle.std.proofs.Common.{◌≡◌, map}
use Rattle.plan_memory.specs.Memories.{first_memory}
use Rattle.rows.specs.PlanRows.{all_plan_rows}
use Rattle.scenario.proofs.memories.first_memories.Given as goal

-- the persons so far remember their plans
abbrev pub invariant-loop-own : goal.invariant-loop-own
invariant-loop-own l = l.rows.items ≡ map first_memory (all_plan_rows l.yielded)
