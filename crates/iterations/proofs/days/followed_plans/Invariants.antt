use Rattle.std.proofs.Common.{◌≡◌, map, take}
use Rattle.rows.specs.PlanRows.{plan_rows}
use Rattle.iterations.specs.Days.{followed_plans}
use Rattle.iterations.proofs.days.followed_plans.Given as goal

abbrev pub invariant-loop-memory : goal.invariant-loop-memory
invariant-loop-memory l = map plan_rows l.plans.items ≡ followed_plans (take l.memory-index l.memories)
