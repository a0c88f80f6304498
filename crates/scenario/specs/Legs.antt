-- The legs of the plans in the town: the numbers of their lines and stops, and what may be wrong with them.
use Rattle.std.specs.{List.flat_map, Prelude.ℕ, Prelude.◌+◌, Prelude.◌-◌}
use Rattle.std.specs.Prelude.{Bool, false, not, ◌&&◌, ◌||◌, nat_eq, is_none, if◌then◌else◌, List, [], ◌∷◌, length, map, drop, get_or, Option, None, unwrap_or}
use Rattle.edge_files.specs.declared.reasons.{Reason.Reason, RowFault.RowFault}
use Rattle.edge_files.specs.declared.reasons.Reason.TheVariants as reason
use Rattle.events.specs.Names.{number_of}
use Rattle.records.specs.{Faults.or_else, Faults.fault_at, Faults.least, Faults.first_fault, Rows.Row}
use Rattle.rows.specs.{PlanRows.PlanRows, declared.plan.Act.Act, declared.plan.Leg.Leg, declared.schedule.RouteRow.RouteRow, declared.schedule.StopRow.StopRow}
use Rattle.rows.specs.declared.plan.Leg.TheVariants as leg
use Rattle.plans.specs.{Kinds.kind_of, Kinds.is_leg, Values.Tables, Values.act_of, Values.leg_of}
use Rattle.town.specs.Fits.{has_wrong_ends, has_wrong_stops, first_link}

-- the numbers that the lines and the stops of the plans have in the town, where it has them
pub record Numbers : Type 0 where
  pub lines : List (Option ℕ)
  pub stops : List (Option ℕ)

-- what legs are held against: these numbers, the town's stops and routes, and the route of a car leg without a link, between an activity and
-- one on a link, where one is searched and there is one
pub record LegChecks : Type 0 where
  pub numbers : Numbers
  pub stops : List StopRow
  pub routes : List RouteRow
  pub searched : Act → ℕ → Option (List ℕ)

-- no route is searched any more
abbrev pub none_searched : Act → ℕ → Option (List ℕ)
none_searched here there = None

-- what legs are held against whose routes are filled as far as there are any
abbrev pub settled : Numbers → List StopRow → List RouteRow → LegChecks
settled numbers stops routes = record { numbers = numbers; stops = stops; routes = routes; searched = none_searched }

-- the number that each name has among the town's
unfoldable pub numbers_in : List (List ℕ) → List (List ℕ) → List (Option ℕ)
numbers_in names town = map (λ name. number_of name town) names

-- the town's number of what has this number in the plans
abbrev pub number_at : List (Option ℕ) → ℕ → Option ℕ
number_at numbers number = get_or numbers number None

-- the same where there is one
abbrev pub in_town : List (Option ℕ) → ℕ → ℕ
in_town numbers number = unwrap_or (number_at numbers number) 0

-- a leg with the town's numbers of its line and its stops
abbrev pub leg_in_town : Numbers → Leg → Leg
leg_in_town N (leg.Car route) = leg.Car route
leg_in_town N (leg.Teleport mode seconds) = leg.Teleport mode seconds
leg_in_town N (leg.Transit line access egress) = leg.Transit (in_town N.lines line) (in_town N.stops access) (in_town N.stops egress)

-- a plan with such legs
abbrev pub plan_in_town : Numbers → PlanRows → PlanRows
plan_in_town N plan = record { acts = plan.acts; legs = map (leg_in_town N) plan.legs }

-- a transit leg of whose line, or of one of whose stops, the town has no such name
abbrev pub is_unknown : Numbers → Leg → Bool
is_unknown N (leg.Car route) = false
is_unknown N (leg.Teleport mode seconds) = false
is_unknown N (leg.Transit line access egress) =
    is_none (number_at N.lines line) || is_none (number_at N.stops access) || is_none (number_at N.stops egress)

-- a car route with links that does not begin on the link of the activity before it, or does not end on that of the one behind it
abbrev pub ends_elsewhere : ℕ → ℕ → Leg → Bool
ends_elsewhere here there (leg.Car route) = not (nat_eq (length route) 0) && has_wrong_ends here there route
ends_elsewhere here there (leg.Teleport mode seconds) = false
ends_elsewhere here there (leg.Transit line access egress) = false

-- a transit leg, with the town's numbers, from or to a stop on another link than that of the activity, or which no route of the line joins
abbrev pub stops_elsewhere : LegChecks → ℕ → ℕ → Leg → Bool
stops_elsewhere W here there (leg.Car route) = false
stops_elsewhere W here there (leg.Teleport mode seconds) = false
stops_elsewhere W here there (leg.Transit line access egress) = has_wrong_stops W.stops W.routes here there line access egress

-- a car leg without a link for which no route is found
abbrev pub lacks_route : LegChecks → Act → ℕ → Leg → Bool
lacks_route W here there (leg.Car route) = nat_eq (length route) 0 && is_none (W.searched here there)
lacks_route W here there (leg.Teleport mode seconds) = false
lacks_route W here there (leg.Transit line access egress) = false

-- the least reason against a leg between an activity and one on this link
unfoldable pub leg_reason : LegChecks → Act → ℕ → Leg → Option Reason
leg_reason W here there leg = least (
    (is_unknown W.numbers leg, reason.Unknown)
    ∷ (ends_elsewhere here.link there leg, reason.EndWrong)
    ∷ (stops_elsewhere W here.link there (leg_in_town W.numbers leg), reason.StopsWrong)
    ∷ (lacks_route W here there leg, reason.NoRoute)
    ∷ [])

-- the activity in a row of plans.csv
abbrev pub act_in : Tables → Row → Act
act_in tables row = act_of tables.kinds tables.links row

-- the least reason against the leg in a row of plans.csv, by the activities in the rows before and behind it; a row that is no leg has none
unfoldable pub leg_reason_at : LegChecks → Tables → List Row → ℕ → Option Reason
leg_reason_at W tables rows place =
    if is_leg (kind_of (get_or rows place [])) then
    leg_reason W (act_in tables (get_or rows (place - 1) [])) (act_in tables (get_or rows (place + 1) [])).link (leg_of tables.lines tables.stops tables.links (get_or rows place []))
    else None

-- the first fault of these legs: the least row that has a reason, and the least of its reasons
unfoldable pub rows_cross_fault : LegChecks → Tables → List Row → Option RowFault
rows_cross_fault W tables rows = first_fault None (leg_reason_at W tables rows) (length rows)

-- THE SAME, PLAN BY PLAN
-- the first fault of the legs of a plan, which stand in every second row from this one on
unfoldable pub legs_fault : LegChecks → ℕ → List Act → List Leg → Option RowFault
legs_fault W row acts [] = None
legs_fault W row [] (leg ∷ legs) = None
legs_fault W row (here ∷ acts) (leg ∷ legs) =
    or_else (fault_at row (leg_reason W here (first_link acts) leg)) (legs_fault W (row + 2) acts legs)

-- the first fault of the legs of a plan that begins in a row
unfoldable pub plan_fault : LegChecks → ℕ → PlanRows → Option RowFault
plan_fault W row plan = legs_fault W (row + 1) plan.acts plan.legs

-- the first fault of the legs of plans, with the rows in which the plans begin
unfoldable pub plans_fault : LegChecks → List ℕ → List PlanRows → Option RowFault
plans_fault W rows [] = None
plans_fault W rows (plan ∷ plans) = or_else (plan_fault W (get_or rows 0 0) plan) (plans_fault W (drop 1 rows) plans)

-- the same, of all persons one behind the other
abbrev pub all_plans_fault : LegChecks → List ℕ → List (List PlanRows) → Option RowFault
all_plans_fault W rows plans = plans_fault W rows (flat_map (λ own. own) plans)
