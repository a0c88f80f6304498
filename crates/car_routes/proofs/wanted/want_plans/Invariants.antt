use Rattle.std.proofs.Common.{drop, map}
use Rattle.rows.specs.PlanRows.{plan_rows}
use Rattle.car_routes.{proofs.Wanting.IsOnWay, specs.Wanted.wanted_by}
use Rattle.car_routes.proofs.wanted.want_plans.Given as goal

-- what the plans from this one on want is still left
abbrev pub invariant-loop-plan : goal.invariant-loop-plan
invariant-loop-plan l = IsOnWay l.adjacency.nodes (wanted_by l.adjacency.ends (map plan_rows (drop l.plan-index l.plans)))
    (wanted_by l.adjacency.ends (map plan_rows l.plans)) l.initial.targets l.targets
