-- Which plans fit a town.
use Rattle.std.specs.Prelude.{ℕ, ◌-◌, Bool, true, false, not, ◌&&◌, ◌||◌, nat_eq, nat_lt, List, [], ◌∷◌, length, get_or}
use Rattle.std.specs.List.{list_all, list_any}
use Rattle.events.specs.declared.lists.StopCall.{StopCall}
use Rattle.rows.specs.{Joined.is_joined, Joined.ends_of, Plan.is_known, PlanRows.PlanRows, Stops.calls_at, Stops.stop_link}
use Rattle.rows.specs.declared.{plan.Act.Act, plan.Leg.Leg, schedule.RouteRow.RouteRow, schedule.StopRow.StopRow}
use Rattle.rows.specs.declared.plan.Leg.TheVariants as leg
use Rattle.town.specs.Rows.{TownRows}

-- a car route that does not begin on the link of the activity before it, or does not end on that of the one after it
unfoldable pub has_wrong_ends : ℕ → ℕ → List ℕ → Bool
has_wrong_ends here there route = not (nat_eq (get_or route 0 0) here && nat_eq (get_or route (length route - 1) 0) there)

-- calls of which one is at the stop of access and a later one at that of egress
unfoldable pub are_joining : ℕ → ℕ → List StopCall → Bool
are_joining access egress [] = false
are_joining access egress (call ∷ calls) = (nat_eq call.stop access && calls_at egress calls) || are_joining access egress calls

-- a route of the line with such calls
abbrev pub is_joining : ℕ → ℕ → ℕ → RouteRow → Bool
is_joining line access egress route = nat_eq route.line line && are_joining access egress route.calls

-- a transit leg whose stop of access is not on the link of the activity before it, or whose stop of egress is not on that of the one after it,
-- or of whose line no route calls at the one and later at the other
unfoldable pub has_wrong_stops : List StopRow → List RouteRow → ℕ → ℕ → ℕ → ℕ → ℕ → Bool
has_wrong_stops stops routes here there line access egress =
    not (nat_eq (stop_link stops access) here && nat_eq (stop_link stops egress) there && list_any (is_joining line access egress) routes)

-- an activity whose kind and link are in the town
abbrev pub is_act_in : TownRows → Act → Bool
is_act_in T act = is_known (length T.book.kinds) (length T.links) act

-- a car route over links of the town, each of which begins where the one before it ends
unfoldable pub is_car_leg : TownRows → List ℕ → Bool
is_car_leg T route = list_all (λ l. nat_lt l (length T.links)) route && is_joined (ends_of T.links) route

-- the line and the stops of a transit leg are in the town
abbrev pub is_transit_leg : TownRows → ℕ → ℕ → ℕ → Bool
is_transit_leg T line access egress = nat_lt line (length T.book.lines) && nat_lt access (length T.stops) && nat_lt egress (length T.stops)

-- a leg between activities on these two links fits: its numbers are in the town, and it goes from the one to the other
unfoldable pub leg_fits : TownRows → ℕ → ℕ → Leg → Bool
leg_fits T here there (leg.Car route) = not (nat_eq (length route) 0) && is_car_leg T route && not (has_wrong_ends here there route)
leg_fits T here there (leg.Teleport mode seconds) = true
leg_fits T here there (leg.Transit line access egress) =
    is_transit_leg T line access egress && not (has_wrong_stops T.stops T.routes here there line access egress)

-- the link of the first activity
abbrev pub first_link : List Act → ℕ
first_link [] = 0
first_link (act ∷ acts) = act.link

-- each leg fits between the activity before it and the one after it
unfoldable pub legs_fit : TownRows → List Act → List Leg → Bool
legs_fit T acts [] = true
legs_fit T [] (leg ∷ legs) = false
legs_fit T (here ∷ acts) (leg ∷ legs) = leg_fits T here.link (first_link acts) leg && legs_fit T acts legs

-- a plan fits the town: its activities and its legs do
unfoldable pub fits : TownRows → PlanRows → Bool
fits T plan = list_all (is_act_in T) plan.acts && legs_fit T plan.acts plan.legs
