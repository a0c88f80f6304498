use Rattle.std.proofs.Common.{◌≡◌, map, take}
use Rattle.rows.specs.PlanRows.{plan_rows}
use Rattle.day_scores.specs.Scores.{first_kind}
use Rattle.day_scores.proofs.kinds.first_kinds.Given as goal

abbrev pub invariant-loop-plan : goal.invariant-loop-plan
invariant-loop-plan l = l.kinds.items ≡ map first_kind (map plan_rows (take l.plan-index l.plans))
