use Rattle.std.proofs.Common.{◌≡◌, ◌++◌, length, map, drop}
use Rattle.rows.specs.PlanRows.{plan_rows}
use Rattle.walks.specs.{Alike.TakesAlike, Arrivals.Arrivals}
use Rattle.car_routes.specs.{Found.AreNext, Plans.routed_plan, Wanted.Pairs, Wanted.wanted_by}
use Rattle.car_routes.proofs.plans.routed_plans.Given as goal

-- the plans before this one have their routes, and those of the others are still to be taken
abbrev pub invariant-loop-plan : goal.invariant-loop-plan
invariant-loop-plan l = record {
  plans : (arrive : Arrivals) (rest : Pairs) → TakesAlike arrive
      → AreNext l.adjacency arrive l.initial.found (wanted_by l.adjacency.ends (map plan_rows l.plans) ++ rest)
      → (map plan_rows l.rows.items ++ map (routed_plan l.adjacency arrive) (map plan_rows (drop l.plan-index l.plans))
      ≡ map (routed_plan l.adjacency arrive) (map plan_rows l.plans))
      × AreNext l.adjacency arrive l.found (wanted_by l.adjacency.ends (map plan_rows (drop l.plan-index l.plans)) ++ rest);
  nodes : length l.found ≡ length l.initial.found;
}
