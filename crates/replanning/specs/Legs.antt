-- ReRoute: a plan whose car legs have the routes of least arrival by the travel times of the day before.
use Rattle.std.specs.Prelude.{ℕ, List, unwrap_or}
use Rattle.rows.specs.{PlanRows.PlanRows, declared.plan.Act.Act, declared.plan.Leg.Leg}
use Rattle.walks.specs.Arrivals.{Arrivals}
use Rattle.router.specs.{Graphs.Graph, Legs.route_between, Legs.with_route, Legs.each_leg}

-- a leg between an activity and one on a link: a car leg has a new route, left at the planned end of the first activity, or its old one
-- where there is no new one of at most 1,000 links
unfoldable pub rerouted_leg : Graph → Arrivals → Act → ℕ → Leg → Leg
rerouted_leg graph arrive here there leg = with_route (λ route. unwrap_or (route_between graph arrive here there) route) leg

-- each leg between the activity before it and the one after it
abbrev pub rerouted_legs : Graph → Arrivals → List Act → List Leg → List Leg
rerouted_legs graph arrive acts legs = each_leg (rerouted_leg graph arrive) acts legs

-- the plan with these legs
abbrev pub rerouted_plan : Graph → Arrivals → PlanRows → PlanRows
rerouted_plan graph arrive plan = record { acts = plan.acts; legs = rerouted_legs graph arrive plan.acts plan.legs }
