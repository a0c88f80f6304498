-- Plans, each car leg of which has a route, as far as there is one.
use Rattle.std.specs.Prelude.{ℕ, Bool, nat_eq, List, [], length, map, unwrap_or, if◌then◌else◌}
use Rattle.std.specs.List.{list_all}
use Rattle.rows.specs.{PlanRows.PlanRows, declared.plan.Act.Act, declared.plan.Leg.Leg}
use Rattle.walks.specs.Arrivals.{Arrivals}
use Rattle.router.specs.{Graphs.Graph, Legs.route_between, Legs.with_route, Legs.each_leg, Legs.are_on}

-- a route with links as it is; one without links is the route of least arrival between the activity, at whose planned end it is left, and
-- the link, where there is one of at most 1,000 links
abbrev pub filled : Graph → Arrivals → Act → ℕ → List ℕ → List ℕ
filled graph arrive here there route = if nat_eq (length route) 0 then unwrap_or (route_between graph arrive here there) [] else route

-- a leg between an activity and one on this link, with its route filled
unfoldable pub routed_leg : Graph → Arrivals → Act → ℕ → Leg → Leg
routed_leg graph arrive here there leg = with_route (filled graph arrive here there) leg

-- a plan with routes for its car legs
abbrev pub routed_plan : Graph → Arrivals → PlanRows → PlanRows
routed_plan graph arrive plan = record { acts = plan.acts; legs = each_leg (routed_leg graph arrive) plan.acts plan.legs }

-- the plans of all persons with routes for their car legs
abbrev pub all_routed : Graph → Arrivals → List (List PlanRows) → List (List PlanRows)
all_routed graph arrive plans = map (map (routed_plan graph arrive)) plans

-- the activities of a person's plans are on links of which there are so many
abbrev pub own_are_on : ℕ → List PlanRows → Bool
own_are_on links plans = list_all (λ (plan : PlanRows). are_on links plan.acts) plans

-- the same of all persons
abbrev pub all_are_on : ℕ → List (List PlanRows) → Bool
all_are_on links plans = list_all (own_are_on links) plans
