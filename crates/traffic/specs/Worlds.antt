-- The laws of a world: each person is in one place, no queue holds more than its storage unless rows were pushed in, no more
-- vehicles pass than the flow allows, and all rows fit the plans that they come from.
use Rattle.std.specs.Prelude.{◌≡◌, ℕ, zero, suc, ◌+◌, ◌*◌, ◌/◌, ◌%◌, ◌<◌, ◌≤◌, ◌⊎◌, Bool, true, false, not, List, [], ◌∷◌, length, count_by, sum_by, filter}
use Rattle.std.specs.Prelude.{drop, get_or, All, ◌==◌, if◌then◌else◌, Option, None, Some}
use Rattle.events.specs.declared.event.Phase.TheVariants as phase
use Rattle.events.specs.declared.{event.VehicleId.VehicleId, lists.StopCall.StopCall}
use Rattle.events.specs.declared.event.VehicleId.TheVariants as vehicle
use Rattle.fixed_flow.specs.{Flow.full_credit, declared.TheConstants.VEHICLE_COST}
use Rattle.traffic.specs.{Day.moves_of, Day.turns_in, Day.through, Day.world_from, Lists.is_nil, Moves.Move, Moves.Transfer, Nodes.OutLink, Nodes.has_room}
use Rattle.traffic.specs.{Nodes.is_stuck, Nodes.out_links_by, Persons.same_vehicle, Rows.VehicleState, Rows.Row, Rows.Place, Rows.At, Rows.Teleporting}
use Rattle.traffic.specs.{Rows.Waiting, Rows.Riding, Rows.Aborted, Rows.World, Rows.on, Rows.at, Rows.person_of, Setup.Setup, Setup.person_plan, Setup.leg_at}
use Rattle.traffic.specs.{Setup.act_after, Setup.departure, Setup.storage_of, Setup.gain_of, declared.riders.Rider.Rider, declared.stage.Stage.Stage}
use Rattle.traffic.specs.declared.stage.Stage.TheVariants.{Queue, Buffer, Wait, Bay}
use Rattle.rows.specs.{Stops.calls_at, declared.plan.Act.Act, declared.plan.Leg.Leg, declared.settings.Stuck.Stuck}
use Rattle.rows.specs.declared.plan.Leg.TheVariants as leg

-- ONE PLACE
-- how often rows list a person among their riders
abbrev pub listed_in : ℕ → Row → ℕ
listed_in i r = count_by (λ (x : Rider). x.person == i) r.vehicle.riders

abbrev pub listed : ℕ → List Row → ℕ
listed i rows = sum_by (listed_in i) rows

abbrev pub rows_of : VehicleId → List Row → List Row
rows_of v rows = filter (λ (r : Row). same_vehicle r.vehicle.id v) rows

-- who rides is listed once, and that in the vehicle named; nobody else is listed
abbrev pub IsListed : ℕ → List Row → Place → Type 0
IsListed i rows (Riding v) = (listed i rows ≡ 1) × (listed i (rows_of v rows) ≡ 1)
IsListed i rows _ = listed i rows ≡ 0

-- each person has one row, and is where it says and nowhere else
pub record OnePlace (S : Setup) (W : World) : Type 0 where
  pub one_row : length W.persons ≡ length S.persons
  pub one_place : (i : ℕ) → i < length S.persons → IsListed i W.rows (person_of i W).place

-- STORAGE
-- a queue has at most its storage of rows that are not pushed
abbrev pub Storage : Setup → World → Type 0
Storage S W = (l : ℕ) → l < length S.links → count_by (λ (r : Row). not r.vehicle.pushed) (at l Queue W) ≤ storage_of S l

-- a row goes into a queue because there is room, or it is stuck and is pushed in; and it knows which
abbrev pub IsEntering : Stuck → ℕ → Option OutLink → Row → Row → Type 0
IsEntering K t e was now =
    ((has_room e ≡ true) × (now.vehicle.pushed ≡ false))
    ⊎ ((has_room e ≡ false) × (K.push ≡ true) × (is_stuck K t was.second ≡ true) × (now.vehicle.pushed ≡ true))

-- each move of a node's turn that takes a row out of a buffer into a queue does so, by the taken places that the ones before it left
abbrev pub EnterByRule : Stuck → ℕ → (ℕ → Option OutLink) → List Move → Type 0
EnterByRule K t out_links [] = Unit {0}
EnterByRule K t out_links (Transfer l s k was now ∷ ms) = IsEntering K t (out_links now.link) was now × EnterByRule K t (out_links_by (Transfer l s k was now) out_links) ms
EnterByRule K t out_links (_ ∷ ms) = EnterByRule K t out_links ms

-- FLOW
-- how many rows moves put into the buffer of link l
abbrev pub buffers_one : ℕ → Move → ℕ
buffers_one l (Transfer a s k was now) = if on l Buffer now then 1 else 0
buffers_one l _ = 0

abbrev pub passing : ℕ → List Move → ℕ
passing l ms = sum_by (buffers_one l) ms

-- the moves of phase D of second t, done on W
abbrev pub link_turn_moves : Setup → ℕ → World → List Move
link_turn_moves S t W = moves_of (turns_in S t phase.D (through S t (phase.A ∷ phase.B1 ∷ phase.B2 ∷ phase.C ∷ []) W))

-- how many pass in the n seconds from t on, of the day that begins with W
unfoldable pub passing_in : Setup → World → ℕ → ℕ → ℕ → ℕ
passing_in S W l t zero = 0
passing_in S W l t (suc n) = passing_in S W l t n + passing l (link_turn_moves S (t + n) (world_from S W (t + n)))

-- in any n seconds in a row no more vehicles enter a link's buffer than what they gain and what may be saved before pays for
abbrev pub FlowKept : Setup → World → Type 0
FlowKept S W = (l t n : ℕ) → l < length S.links → t + n ≤ S.settings.end_second → passing_in S W l t n ≤ (n * gain_of S l + full_credit (gain_of S l)) / VEHICLE_COST

-- SOUND
-- the element is an activity of the plan, or a leg of it
abbrev pub IsAct : Setup → ℕ → ℕ → Type 0
IsAct S i element = (element % 2 ≡ 0) × (element / 2 < length (person_plan S i).acts)

abbrev pub IsLeg : Setup → ℕ → ℕ → Type 0
IsLeg S i element = (element % 2 ≡ 1) × (element / 2 < length (person_plan S i).legs)

-- whether it is the last activity of the plan
abbrev pub is_last_act : Setup → ℕ → ℕ → Bool
is_last_act S i element = element / 2 + 1 == length (person_plan S i).acts

-- an activity has an end exactly where it is not the last one
abbrev pub HasEnd : Bool → Option ℕ → Type 0
HasEnd last None = last ≡ true
HasEnd last (Some end) = last ≡ false

abbrev pub IsTeleported : Leg → Type 0
IsTeleported (leg.Teleport mode seconds) = Unit {0}
IsTeleported _ = ⊥

-- a transit leg from this stop
abbrev pub IsFrom : ℕ → Leg → Type 0
IsFrom stop (leg.Transit line access egress) = access ≡ stop
IsFrom stop _ = ⊥

-- a leg in a vehicle
abbrev pub IsInVehicle : Leg → Type 0
IsInVehicle (leg.Teleport mode seconds) = ⊥
IsInVehicle _ = Unit {0}

-- a person's element fits the place
abbrev pub IsSoundPerson : Setup → ℕ → ℕ → Place → Type 0
IsSoundPerson S i element (At end) = IsAct S i element × HasEnd (is_last_act S i element) end
IsSoundPerson S i element (Teleporting start) = IsLeg S i element × IsTeleported (leg_at S i element)
IsSoundPerson S i element (Waiting stop since) = IsLeg S i element × IsFrom stop (leg_at S i element)
IsSoundPerson S i element (Riding v) = IsLeg S i element × IsInVehicle (leg_at S i element)
IsSoundPerson S i element (Aborted l) = IsLeg S i element × IsInVehicle (leg_at S i element)

-- a vehicle in a bay has served a stop, and one in a buffer has a next link
abbrev pub IsSoundStage : Stage → VehicleState → Type 0
IsSoundStage Queue v = Unit {0}
IsSoundStage Buffer v = v.place + 1 < length v.route
IsSoundStage Wait v = Unit {0}
IsSoundStage Bay v = 1 ≤ v.served

-- the links that are still ahead of it: those from its own on, but in a buffer those after it
abbrev pub ahead : Stage → VehicleState → List ℕ
ahead Buffer v = drop (v.place + 1) v.route
ahead _ v = drop v.place v.route

-- the list from the first link that is this one on
abbrev pub from_link : ℕ → List ℕ → List ℕ
from_link l [] = []
from_link l (x ∷ xs) = if x == l then x ∷ xs else from_link l xs

-- these calls can all be served in order on these links, and two on one link
abbrev pub AreServable : List StopCall → List ℕ → Type 0
AreServable [] links = Unit {0}
AreServable (c ∷ cs) links = (is_nil (from_link c.link links) ≡ false) × AreServable cs (from_link c.link links)

-- a rider has the egress stop of his leg, which is none for a car leg, and the kind of the activity after it
abbrev pub HasLeg : Rider → Leg → Act → Type 0
HasLeg r (leg.Car route) next = (r.egress ≡ None) × (r.kind ≡ next.kind)
HasLeg r (leg.Teleport mode seconds) next = ⊥
HasLeg r (leg.Transit line access egress) next = (r.egress ≡ Some egress) × (r.kind ≡ next.kind)

-- the leg is by car along this route
abbrev pub IsAlong : List ℕ → Leg → Type 0
IsAlong route (leg.Car links) = links ≡ route
IsAlong route _ = ⊥

-- the leg is by this line to one of the stops that are still unserved
abbrev pub IsOnLine : VehicleState → Leg → Type 0
IsOnLine v (leg.Transit line access egress) = (line ≡ v.line) × (calls_at egress (drop v.served v.calls) ≡ true)
IsOnLine v _ = ⊥

abbrev pub leg_of : Setup → World → ℕ → Leg
leg_of S W i = leg_at S i (person_of i W).element

-- a car has its driver alone, and the route of his leg; in a transit vehicle each rider is on a leg that it serves
abbrev pub HasRiders : Setup → World → VehicleState → VehicleId → Type 0
HasRiders S W v (vehicle.Car i) = (length v.riders ≡ 1) × All (λ (r : Rider). r.person ≡ i) v.riders × IsAlong v.route (leg_of S W i)
HasRiders S W v (vehicle.Transit d) = All (λ (r : Rider). IsOnLine v (leg_of S W r.person)) v.riders

-- the car of a person who is there: it calls at no stop and has served none, and its line, its second of departure and its seats are 0
pub record IsCarOf (S : Setup) (i : ℕ) (v : VehicleState) : Type 0 where
  pub there : i < length S.persons
  pub line : v.line ≡ 0
  pub calls : v.calls ≡ []
  pub served : v.served ≡ 0
  pub departed : v.departed ≡ 0
  pub seats : v.seats ≡ 0

-- the vehicle of a departure that is there: its route, line, calls, second of departure and seats are those of the departure, and it has
-- served no more calls than it has
pub record IsOfDeparture (S : Setup) (d : ℕ) (v : VehicleState) : Type 0 where
  pub there : d < length S.departures
  pub route : v.route ≡ (departure S d).route
  pub line : v.line ≡ (departure S d).line
  pub calls : v.calls ≡ (departure S d).calls
  pub served : v.served ≤ length v.calls
  pub departed : v.departed ≡ (departure S d).second
  pub seats : v.seats ≡ (departure S d).seats

-- a vehicle is what the person or the departure that it is of makes it
abbrev pub IsOwn : Setup → VehicleState → VehicleId → Type 0
IsOwn S v (vehicle.Car i) = IsCarOf S i v
IsOwn S v (vehicle.Transit d) = IsOfDeparture S d v

-- a vehicle row fits the timetable or the person that it comes from, its route, its calls and its riders' legs
pub record IsSoundRow (S : Setup) (W : World) (r : Row) : Type 0 where
  pub own : IsOwn S r.vehicle r.vehicle.id
  pub stage : IsSoundStage r.stage r.vehicle
  pub place : r.vehicle.place < length r.vehicle.route
  pub link : r.link ≡ get_or r.vehicle.route r.vehicle.place 0
  pub calls : AreServable (drop r.vehicle.served r.vehicle.calls) (ahead r.stage r.vehicle)
  pub legs : All (λ (x : Rider). HasLeg x (leg_of S W x.person) (act_after S x.person (person_of x.person W).element)) r.vehicle.riders
  pub riders : HasRiders S W r.vehicle r.vehicle.id

pub record Sound (S : Setup) (W : World) : Type 0 where
  pub persons : (i : ℕ) → i < length S.persons → IsSoundPerson S i (person_of i W).element (person_of i W).place
  pub rows : All (IsSoundRow S W) W.rows
