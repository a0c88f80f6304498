-- Legs of a plan and their routes, each between two activities.
use Rattle.std.specs.Prelude.{◌≡◌, ℕ, ◌-◌, ◌≤◌, Bool, nat_lt, true, List, [], ◌∷◌, length, get_or, Option, unwrap_or}
use Rattle.std.specs.List.{list_all}
use Rattle.limits.specs.declared.TheConstants.{MAX_ROUTE_LINKS}
use Rattle.rows.specs.{Joined.is_joined, declared.plan.Act.Act, declared.plan.Leg.Leg}
use Rattle.rows.specs.declared.plan.Leg.TheVariants as leg
use Rattle.walks.specs.{Arrivals.Arrivals, Walks.Ends}
use Rattle.router.specs.{Graphs.Graph, Routes.leg_route, Routes.allowed}

-- the route of a car leg between an activity, at whose planned end it is left (in second 0 where it has none), and one on this link; none
-- where no walk joins the links, or where the route would have more than 1,000 links
abbrev pub route_between : Graph → Arrivals → Act → ℕ → Option (List ℕ)
route_between graph arrive here there = allowed (leg_route graph arrive (unwrap_or here.end 0) here.link there)

-- a car leg with the route that a rule makes of its own one; any other leg as it is
abbrev pub with_route : (List ℕ → List ℕ) → Leg → Leg
with_route rule (leg.Car route) = leg.Car (rule route)
with_route rule (leg.Teleport mode seconds) = leg.Teleport mode seconds
with_route rule (leg.Transit line access egress) = leg.Transit line access egress

-- each leg of a plan by a rule, which knows the activity before it and the link of the one after it
unfoldable pub each_leg : (Act → ℕ → Leg → Leg) → List Act → List Leg → List Leg
each_leg rule acts [] = []
each_leg rule (here ∷ there ∷ acts) (leg ∷ legs) = rule here there.link leg ∷ each_leg rule (there ∷ acts) legs
each_leg rule acts (leg ∷ legs) = leg ∷ legs

-- the activities are on links of which there are so many
abbrev pub are_on : ℕ → List Act → Bool
are_on links acts = list_all (λ (act : Act). nat_lt act.link links) acts

-- a route leads from the one link to the other: they are its first and its last one, all its links are there and each begins where the
-- one before it ends, and a leg may have so many
pub record Joins (ends : Ends) (here there : ℕ) (route : List ℕ) : Type 0 where
  pub some : 1 ≤ length route
  pub short : length route ≤ MAX_ROUTE_LINKS
  pub first : get_or route 0 0 ≡ here
  pub last : get_or route (length route - 1) 0 ≡ there
  pub within : list_all (λ link. nat_lt link (length ends)) route ≡ true
  pub joined : is_joined ends route ≡ true
