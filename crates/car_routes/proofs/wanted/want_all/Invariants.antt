use Rattle.std.proofs.Common.{drop}
use Rattle.rows.specs.PlanRows.{all_plan_rows}
use Rattle.car_routes.{proofs.Wanting.IsOnWay, specs.Wanted.wanted_by_all}
use Rattle.car_routes.proofs.wanted.want_all.Given as goal

-- what the persons from this one on want is still left
abbrev pub invariant-loop-own : goal.invariant-loop-own
invariant-loop-own l = IsOnWay l.adjacency.nodes (wanted_by_all l.adjacency.ends (all_plan_rows (drop l.own-index l.plans)))
    (wanted_by_all l.adjacency.ends (all_plan_rows l.plans)) l.initial.targets l.targets
