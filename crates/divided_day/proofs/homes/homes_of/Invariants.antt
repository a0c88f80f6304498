use Rattle.std.proofs.Common.{◌≡◌, take, map}
use Rattle.rows.specs.PlanRows.{plan_rows}
use Rattle.town.specs.Views.{setup}
use Rattle.partition.specs.{Homes.home_of, Owned.owner_in}
use Rattle.divided_day.proofs.homes.homes_of.Given as goal

abbrev pub invariant-loop-plan : goal.invariant-loop-plan
invariant-loop-plan l =
    l.homes.items ≡ map (home_of (setup l.day) (owner_in l.owner.of_node)) (map plan_rows (take l.plan-index l.day.chosen.now))
