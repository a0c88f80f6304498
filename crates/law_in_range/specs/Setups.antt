-- Setups whose days stay fit, and the plans and towns that they come from.
use Rattle.std.specs.Prelude.{◌≡◌, ◌<◌, ◌≤◌, ◌+◌, ◌/◌, ℕ, true, List, [], length, get_or, All, Some}
use Rattle.std.specs.List.{list_all}
use Rattle.limits.specs.declared.TheConstants.{LAST_SECOND, MAX_CALLS, MAX_LEGS, MAX_ROUTE_LINKS, MAX_SEATS}
use Rattle.rows.specs.{Plan.is_leg, Plan.are_acts, PlanRows.PlanRows, declared.plan.Act.Act, declared.plan.Leg.Leg, declared.schedule.StopRow.StopRow}
use Rattle.rows.specs.declared.plan.Leg.TheVariants as leg
use Rattle.traffic.specs.{Rows.World, Setup.Setup, Setup.Departure, Setup.person_plan, Setup.act_at, Setup.leg_at, declared.world.Hole.Hole}
use Rattle.town.specs.{Fits.fits, Rows.TownRows, Views.rows_of, Views.chosen_in, declared.day_input.DayInput.DayInput}
use Rattle.law_in_range.specs.Rows.{Counts, IsFitLink, IsFitCall}

-- how many legs the plan of a person has
abbrev pub legs_of : List PlanRows → ℕ → ℕ
legs_of plans i = length (get_or plans i (record { acts = []; legs = [] })).legs

-- the counts of a town and of its chosen plans, one for each person
abbrev pub counts_of : TownRows → List PlanRows → Counts
counts_of T chosen = record {
  persons = length chosen;
  links = length T.links;
  kinds = length T.book.kinds;
  stops = length T.stops;
  lines = length T.book.lines;
  departures = length T.departures;
  legs = legs_of chosen;
}

-- the counts of a day
abbrev pub counts_in : DayInput → Counts
counts_in day = counts_of (rows_of day.town.now) (chosen_in day)

-- a plan that a day of the town can be made from: all that a plan keeps, and it fits the town
pub record IsPlanIn (T : TownRows) (p : PlanRows) : Type 0 where
  pub one_more : length p.acts ≡ length p.legs + 1
  pub few : length p.legs ≤ MAX_LEGS
  pub ends : are_acts p.acts ≡ true
  pub legs : list_all is_leg p.legs ≡ true
  pub fit : fits T p ≡ true

-- 1 to 1,000 links that are there
pub record IsFitRoute (z : Counts) (route : List ℕ) : Type 0 where
  pub some : 0 < length route
  pub few : length route ≤ MAX_ROUTE_LINKS
  pub links : All (IsFitLink z) route

-- a departure of a line that is there, along a fit route and with fit calls, within the limits
pub record IsFitDeparture (z : Counts) (d : Departure) : Type 0 where
  pub second : d.second ≤ LAST_SECOND
  pub seats : d.seats ≤ MAX_SEATS
  pub line : d.line < z.lines
  pub route : IsFitRoute z d.route
  pub calls : All (IsFitCall z) d.calls
  pub few : length d.calls ≤ MAX_CALLS

-- a stop on a link that is there
abbrev pub IsFitStop : Counts → StopRow → Type 0
IsFitStop z s = s.link < z.links

-- an activity of a kind and on a link that are there
pub record IsFitAct (z : Counts) (s : Act) : Type 0 where
  pub kind : s.kind < z.kinds
  pub link : s.link < z.links

-- a car leg has a route, and a transit leg begins at a stop that is there
abbrev pub IsFitLeg : Counts → Leg → Type 0
IsFitLeg z (leg.Car route) = IsFitRoute z route
IsFitLeg z (leg.Teleport mode seconds) = Unit {0}
IsFitLeg z (leg.Transit line access egress) = access < z.stops

-- there are as many rows of each, and all that they name is there; an activity with an end has a leg after it
pub record IsFitSetup (z : Counts) (S : Setup) : Type 0 where
  pub persons : length S.persons ≡ z.persons
  pub links : length S.links ≡ z.links
  pub stops : length S.stops ≡ z.stops
  pub departures : length S.departures ≡ z.departures
  pub stop_links : All (IsFitStop z) S.stops
  pub runs : All (IsFitDeparture z) S.departures
  pub acts : (i element : ℕ) → i < z.persons → IsFitAct z (act_at S i element)
  pub ends : (i element second : ℕ) → i < z.persons → (act_at S i element).end ≡ Some second → element / 2 < z.legs i
  pub legs : (i element : ℕ) → i < z.persons → element / 2 < z.legs i → IsFitLeg z (leg_at S i element)

-- each person's plan has the legs that are counted, and one activity more
pub record HasPlans (z : Counts) (S : Setup) : Type 0 where
  pub legs : (i : ℕ) → i < z.persons → z.legs i ≡ length (person_plan S i).legs
  pub one_more : (i : ℕ) → i < z.persons → length (person_plan S i).acts ≡ z.legs i + 1

-- a world has a credit for each link, and no hole of another
pub record HasItsLinks (S : Setup) (W : World) : Type 0 where
  pub credits : length W.credits ≡ length S.links
  pub holes : All (λ (h : Hole). h.link < length S.links) W.holes

-- one plan for each person of the town, which fits it
pub record HaveFittingPlans (day : DayInput) : Type 0 where
  pub each : length day.town.now.book.persons ≡ length day.chosen.now
  pub fit : list_all (fits (rows_of day.town.now)) (chosen_in day) ≡ true
