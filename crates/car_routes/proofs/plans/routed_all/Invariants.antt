use Rattle.std.proofs.Common.{◌≡◌, ◌++◌, [], length, drop}
use Rattle.rows.specs.PlanRows.{all_plan_rows}
use Rattle.walks.specs.{Alike.TakesAlike, Arrivals.Arrivals}
use Rattle.car_routes.specs.{Found.AreNext, Plans.all_routed, Wanted.wanted_by_all}
use Rattle.car_routes.proofs.plans.routed_all.Given as goal

-- the persons so far have their routes, and those of the others are still to be taken
abbrev pub invariant-loop-own : goal.invariant-loop-own
invariant-loop-own l = record {
  plans : (arrive : Arrivals) → TakesAlike arrive
      → AreNext l.adjacency arrive l.initial.found (wanted_by_all l.adjacency.ends (all_plan_rows l.fn.plans))
      → (all_plan_rows l.rows.items ++ all_routed l.adjacency arrive (all_plan_rows (drop (length l.yielded) l.fn.plans))
      ≡ all_routed l.adjacency arrive (all_plan_rows l.fn.plans))
      × AreNext l.adjacency arrive l.found (wanted_by_all l.adjacency.ends (all_plan_rows (drop (length l.yielded) l.fn.plans)) ++ []);
  nodes : length l.found ≡ length l.initial.found;
}
