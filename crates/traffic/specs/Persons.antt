-- Phases A, B1 and B2: the turn of a person or of a departure; and who is under way when the day ends.
use Rattle.std.specs.Prelude.{ℕ, ◌+◌, Bool, false, List, [], ◌∷◌, length, get_or, ◌==◌, if◌then◌else◌, None, Some}
use Rattle.std.specs.List.{flat_map}
use Rattle.events.specs.declared.event.{Mode.Mode, VehicleId.VehicleId}
use Rattle.events.specs.declared.event.Mode.TheVariants as mode
use Rattle.events.specs.declared.event.Word.TheVariants as word
use Rattle.events.specs.declared.event.VehicleId.TheVariants as vehicle
use Rattle.events.specs.declared.event.More.TheVariants as more
use Rattle.traffic.specs.{Lists.below, Moves.Move, Moves.Enter, Moves.Report, Rows.Row, Rows.Place, Rows.At, Rows.Teleporting, Rows.Waiting, Rows.Riding}
use Rattle.traffic.specs.{Rows.Aborted, Rows.Person, Rows.World, Rows.person_of, Setup.Setup, Setup.Departure, Setup.act_at, Setup.leg_at, Setup.act_after}
use Rattle.traffic.specs.{Setup.link_of_stop, Setup.departure, Stops.Waiter, Telling.Occurrence, Telling.of_person, declared.stage.Stage.TheVariants.Wait}
use Rattle.rows.specs.{Plan.mode_of_leg, declared.plan.Act.Act, declared.plan.Leg.Leg}
use Rattle.rows.specs.declared.plan.Leg.TheVariants as leg

-- a teleported leg is over
abbrev pub lands : ℕ → Mode → ℕ → Act → List Occurrence
lands i mode seconds next =
    (record { word = word.Travelled; person = Some i; vehicle = None; link = None; more = more.Seconds seconds })
    ∷ of_person word.Arrival i next.link (more.Mode mode)
    ∷ of_person word.ActStart i next.link (more.Kind next.kind) ∷ []

-- phase A for a person at this place, whose leg this is and next activity that: where a teleported leg of d seconds began d seconds ago
abbrev pub landing : ℕ → ℕ → Leg → Act → Place → List Move
landing t i (leg.Teleport mode seconds) next (Teleporting start) = if start + seconds == t then Report (lands i mode seconds next) ∷ [] else []
landing t i _ next _ = []

unfoldable pub landing_moves : Setup → ℕ → ℕ → Person → List Move
landing_moves S t i P = landing t i (leg_at S i P.element) (act_after S i P.element) P.place

-- a car with its driver, as it stands at the end of the wait list of the route's first link
abbrev pub car : ℕ → List ℕ → ℕ → Row
car i route kind =
    record {
      vehicle = record {
        id = vehicle.Car i;
        route = route;
        place = 0;
        started = false;
        riders = (record { person = i; egress = None; kind = kind }) ∷ [];
        line = 0;
        calls = [];
        served = 0;
        departed = 0;
        seats = 0;
        pushed = false;
      };
      link = get_or route 0 0;
      stage = Wait;
      second = 0;
    }

-- how a leg begins: a driver enters his car, a passenger waits at the access stop, and of a teleported leg nothing more is told
abbrev pub sets_out : Setup → ℕ → Leg → Act → List Move
sets_out S i (leg.Car route) next = Enter (car i route next.kind) ∷ []
sets_out S i (leg.Teleport mode seconds) next = []
sets_out S i (leg.Transit line access egress) next = Report (of_person word.WaitingForPt i (link_of_stop S access) (more.Stop access) ∷ []) ∷ []

-- an activity ends, and the leg after it begins
abbrev pub departs : ℕ → Act → Leg → List Occurrence
departs i here w = of_person word.ActEnd i here.link (more.Kind here.kind) ∷ of_person word.Departure i here.link (more.Mode (mode_of_leg w)) ∷ []

-- phase B1 for a person at this place, with this activity, leg and next activity: where his activity ends in second t
abbrev pub leaving : Setup → ℕ → ℕ → Act → Leg → Act → Place → List Move
leaving S t i here w next (At (Some end)) = if end == t then Report (departs i here w) ∷ sets_out S i w next else []
leaving S t i here w next _ = []

unfoldable pub leaving_moves : Setup → ℕ → ℕ → Person → List Move
leaving_moves S t i P = leaving S t i (act_at S i P.element) (leg_at S i P.element) (act_after S i P.element) P.place

-- the empty vehicle of a departure, at the end of the wait list of its route's first link
abbrev pub transit_vehicle : ℕ → Departure → Row
transit_vehicle d D =
    record {
      vehicle = record {
        id = vehicle.Transit d;
        route = D.route;
        place = 0;
        started = false;
        riders = [];
        line = D.line;
        calls = D.calls;
        served = 0;
        departed = D.second;
        seats = D.seats;
        pushed = false;
      };
      link = get_or D.route 0 0;
      stage = Wait;
      second = 0;
    }

-- phase B2 for a departure: in its second
unfoldable pub departure_moves : Setup → ℕ → ℕ → List Move
departure_moves S t d = if (departure S d).second == t then Enter (transit_vehicle d (departure S d)) ∷ [] else []

-- a person who waits at a stop, with his leg and the activity after it
abbrev pub waits : ℕ → Leg → Act → ℕ → ℕ → List Waiter
waits i (leg.Transit line access egress) next stop since =
    (record { person = i; stop = stop; line = line; egress = egress; kind = next.kind; since = since }) ∷ []
waits i _ next stop since = []

-- where he waits at a stop on link l
abbrev pub waits_on : Setup → ℕ → ℕ → Leg → Act → Place → List Waiter
waits_on S l i w next (Waiting stop since) = if link_of_stop S stop == l then waits i w next stop since else []
waits_on S l i w next _ = []

abbrev pub waiter : Setup → ℕ → ℕ → Person → List Waiter
waiter S l i P = waits_on S l i (leg_at S i P.element) (act_after S i P.element) P.place

-- those who wait at the stops on link l, by their numbers
unfoldable pub waiters : Setup → ℕ → World → List Waiter
waiters S l W = flat_map (λ i. waiter S l i (person_of i W)) (below (length W.persons))

-- whether two numbers of vehicles are one
abbrev pub same_vehicle : VehicleId → VehicleId → Bool
same_vehicle (vehicle.Car i) (vehicle.Car j) = i == j
same_vehicle (vehicle.Car i) (vehicle.Transit d) = false
same_vehicle (vehicle.Transit d) (vehicle.Car i) = false
same_vehicle (vehicle.Transit d) (vehicle.Transit e) = d == e

-- the link of the first row of this vehicle
unfoldable pub link_of_vehicle : VehicleId → List Row → ℕ
link_of_vehicle v [] = 0
link_of_vehicle v (r ∷ rs) = if same_vehicle r.vehicle.id v then r.link else link_of_vehicle v rs

-- the link of who rides, by the rows of all vehicles
abbrev pub link_ridden : List Row → Place → ℕ
link_ridden rows (At end) = 0
link_ridden rows (Teleporting start) = 0
link_ridden rows (Waiting stop since) = 0
link_ridden rows (Riding v) = link_of_vehicle v rows
link_ridden rows (Aborted l) = 0

-- phase E: who is under way is stuck: one who flies on the link of the activity that he left, one who waits on that of the stop, one
-- who rides on this link
abbrev pub stuck_on : Setup → ℕ → ℕ → Act → Mode → Place → List Occurrence
stuck_on S ridden i here mode (At end) = []
stuck_on S ridden i here mode (Teleporting start) = of_person word.StuckAndAbort i here.link (more.Mode mode) ∷ []
stuck_on S ridden i here mode (Waiting stop since) = of_person word.StuckAndAbort i (link_of_stop S stop) (more.Mode mode) ∷ []
stuck_on S ridden i here mode (Riding v) = of_person word.StuckAndAbort i ridden (more.Mode mode) ∷ []
stuck_on S ridden i here mode (Aborted l) = []

abbrev pub stuck_at : Setup → World → ℕ → Act → Mode → Place → List Occurrence
stuck_at S W i here mode place = stuck_on S (link_ridden W.rows place) i here mode place

unfoldable pub stranded : Setup → World → ℕ → List Occurrence
stranded S W i =
    let P = person_of i W in
    stuck_at S W i (act_at S i P.element) (mode_of_leg (leg_at S i P.element)) P.place
