-- Worked days, cut to few seconds.
use Rattle.std.specs.Prelude.{ℕ, Bool, true, false, List, [], ◌∷◌, ◌++◌, map, filter, nat_le, Option, None, Some}
use Rattle.events.specs.declared.event.{Event.Event, Word.Word}
use Rattle.events.specs.declared.event.VehicleId.TheVariants as vehicle
use Rattle.events.specs.declared.event.Word.TheVariants as word
use Rattle.traffic.specs.{Rows.Row, Rows.World, Setup.Setup, Setup.Departure}
use Rattle.traffic.specs.declared.stage.Stage.{Stage, TheVariants.Queue, TheVariants.Buffer}
use Rattle.rows.specs.{PlanRows.PlanRows, declared.network.LinkRow.LinkRow, declared.plan.Leg.Leg, declared.settings.TrafficSettings.TrafficSettings}
use Rattle.rows.specs.declared.plan.Leg.TheVariants as leg

-- an event's second, word, person and link
abbrev pub short : Event → ℕ × Word × Option ℕ × Option ℕ
short e = (e.key.second, e.word, e.person, e.link)

-- a link of one lane
abbrev pub one_lane : ℕ → ℕ → ℕ → ℕ → LinkRow
one_lane a b length capacity = record { from = a; to = b; length = length; speed = 1000; capacity = capacity; lanes = 1 }

-- a bus of one seat that starts in second 2, with a call on each of two links
abbrev pub buses : List Departure
buses = (record { second = 2; seats = 1; line = 0; route = 0 ∷ 1 ∷ []; calls = (record { stop = 0; link = 0; offset = 3; wait = true }) ∷ (record { stop = 1; link = 1; offset = 6; wait = false }) ∷ [] }) ∷ []

-- in a day of so many seconds a front is stuck after two seconds, and a vehicle stands one second at a stop, one for each who alights and two for each who boards
abbrev pub traffic : Bool → ℕ → TrafficSettings
traffic push end =
    record {
      end_second = end;
      flow_permille = 1000;
      storage_permille = 1000;
      stuck = record { seconds = 2; push = push };
      hole_speed = None;
      dwell = record { per_stop = 1; per_alight = 1; per_board = 2 };
    }

abbrev pub town : List LinkRow → List Departure → List PlanRows → TrafficSettings → Setup
town links departures persons settings =
    record {
      settings = settings;
      nodes = 4;
      links = links;
      stops = (record { link = 0 }) ∷ (record { link = 1 }) ∷ [];
      departures = departures;
      persons = persons;
      word = λ n q. 0;
      green = λ l t. true;
    }

-- at home on link 0 until second 0, then by this way to work on that link
abbrev pub commuter : Leg → ℕ → PlanRows
commuter leg link = record { acts = (record { kind = 0; link = 0; end = Some 0 }) ∷ (record { kind = 1; link = link; end = None }) ∷ []; legs = leg ∷ [] }

-- two passengers
abbrev pub bus : Setup
bus = town (one_lane 0 1 1000 3600 ∷ one_lane 1 2 1000 3600 ∷ []) buses (commuter (leg.Transit 0 0 1) 1 ∷ commuter (leg.Transit 0 0 1) 1 ∷ []) (traffic false 11)

-- three cars, and a short link in their way through which one passes in an hour
abbrev pub narrow : Bool → Setup
narrow push =
    let drive = leg.Car (0 ∷ 1 ∷ 2 ∷ []) in
    town (one_lane 0 1 1000 3600 ∷ one_lane 1 2 50 1 ∷ one_lane 2 3 1000 3600 ∷ []) [] (commuter drive 2 ∷ commuter drive 2 ∷ commuter drive 2 ∷ []) (traffic push 6)

abbrev pub departing : ℕ → List (ℕ × Word × Option ℕ × Option ℕ)
departing i = (0, word.ActEnd, Some i, Some 0) ∷ (0, word.Departure, Some i, Some 0) ∷ (0, word.PersonEntersVehicle, Some i, None) ∷ []

-- the first one is through, the second one enters the short link when it is empty
abbrev pub before_stuck : List (ℕ × Word × Option ℕ × Option ℕ)
before_stuck =
    departing 0 ++ departing 1 ++ departing 2
    ++ (0, word.VehicleEntersTraffic, Some 0, Some 0)
    ∷ (1, word.LeftLink, None, Some 0) ∷ (1, word.EnteredLink, None, Some 1) ∷ (1, word.VehicleEntersTraffic, Some 1, Some 0)
    ∷ (3, word.LeftLink, None, Some 0) ∷ (3, word.EnteredLink, None, Some 1)
    ∷ (3, word.LeftLink, None, Some 1) ∷ (3, word.EnteredLink, None, Some 2) ∷ (3, word.VehicleEntersTraffic, Some 2, Some 0)
    ∷ (4, word.VehicleLeavesTraffic, Some 0, Some 2) ∷ (4, word.PersonLeavesVehicle, Some 0, None) ∷ (4, word.Arrival, Some 0, Some 2) ∷ (4, word.ActStart, Some 0, Some 2) ∷ []

-- what is told: one boards, rides and arrives, and the other one waits until the day ends
abbrev pub bus_told : List (ℕ × Word × Option ℕ × Option ℕ)
bus_told =
    (0, word.ActEnd, Some 0, Some 0) ∷ (0, word.Departure, Some 0, Some 0) ∷ (0, word.WaitingForPt, Some 0, Some 0)
    ∷ (0, word.ActEnd, Some 1, Some 0) ∷ (0, word.Departure, Some 1, Some 0) ∷ (0, word.WaitingForPt, Some 1, Some 0)
    ∷ (2, word.TransitDriverStarts, None, Some 0)
    ∷ (2, word.VehicleEntersTraffic, None, Some 0) ∷ (2, word.VehicleArrivesAtFacility, None, Some 0) ∷ (2, word.PersonEntersVehicle, Some 0, None)
    ∷ (5, word.VehicleDepartsAtFacility, None, Some 0)
    ∷ (6, word.LeftLink, None, Some 0) ∷ (6, word.EnteredLink, None, Some 1)
    ∷ (7, word.VehicleArrivesAtFacility, None, Some 1) ∷ (7, word.PersonLeavesVehicle, Some 0, None) ∷ (7, word.Arrival, Some 0, Some 1) ∷ (7, word.ActStart, Some 0, Some 1)
    ∷ (9, word.VehicleDepartsAtFacility, None, Some 1) ∷ (9, word.VehicleLeavesTraffic, None, Some 1)
    ∷ (11, word.StuckAndAbort, Some 1, Some 0) ∷ []

-- the third one is stuck, and is removed, or is pushed in
abbrev pub narrow_told : Bool → List (ℕ × Word × Option ℕ × Option ℕ)
narrow_told false =
    before_stuck ++ (5, word.VehicleAborts, None, Some 0) ∷ (5, word.StuckAndAbort, Some 2, Some 0) ∷ (6, word.StuckAndAbort, Some 1, Some 1) ∷ []
narrow_told true =
    before_stuck ++ (5, word.LeftLink, None, Some 0) ∷ (5, word.EnteredLink, None, Some 1)
    ∷ (6, word.StuckAndAbort, Some 1, Some 1) ∷ (6, word.StuckAndAbort, Some 2, Some 1) ∷ []

-- what enters a link, arrives or is stuck
abbrev pub is_arrival : Word → Bool
is_arrival word.EnteredLink = true
is_arrival word.Arrival = true
is_arrival word.StuckAndAbort = true
is_arrival _ = false

abbrev pub arrivals : List Event → List (ℕ × Word × Option ℕ × Option ℕ)
arrivals events = map short (filter (λ (e : Event). is_arrival e.word) events)

abbrev pub driver_from : ℕ → List ℕ → ℕ → PlanRows
driver_from link route work =
    record { acts = (record { kind = 0; link = link; end = Some 0 }) ∷ (record { kind = 1; link = work; end = None }) ∷ []; legs = leg.Car route ∷ [] }

-- two links of capacity 1,000 and 2,000 into one node, a car on each, and one place behind it; the word draws who goes first
abbrev pub junction : ℕ → Setup
junction w =
    record (
    town (one_lane 0 2 10000 1000 ∷ one_lane 1 2 10000 2000 ∷ one_lane 2 3 50 3600 ∷ []) []
    (driver_from 0 (0 ∷ 2 ∷ []) 2 ∷ driver_from 1 (1 ∷ 2 ∷ []) 2 ∷ [])
    (record (traffic false 5) { stuck = record { seconds = 10; push = false } })
    ) { word = λ n q. w }

abbrev pub junction_told : ℕ → ℕ → List (ℕ × Word × Option ℕ × Option ℕ)
junction_told first second =
    (1, word.EnteredLink, None, Some 2) ∷ (2, word.Arrival, Some first, Some 2) ∷ (3, word.EnteredLink, None, Some 2) ∷ (4, word.Arrival, Some second, Some 2) ∷ []

-- one car, and a light that is red until second 3
abbrev pub red_light : Setup
red_light = record (town (one_lane 0 1 1000 3600 ∷ one_lane 1 2 1000 3600 ∷ []) [] (driver_from 0 (0 ∷ 1 ∷ []) 1 ∷ []) (traffic false 7)) { green = λ l t. nat_le 3 t }

-- four short links in a line; in the queue and in the buffer of each of the first three a car stands, and all go to the fourth
abbrev pub standing : Stage → ℕ → ℕ → Row
standing s i l =
    record {
      vehicle = record {
        id = vehicle.Car i;
        route = 0 ∷ 1 ∷ 2 ∷ 3 ∷ [];
        place = l;
        started = true;
        riders = [];
        line = 0;
        calls = [];
        served = 0;
        departed = 0;
        seats = 0;
        pushed = false;
      };
      link = l;
      stage = s;
      second = 0;
    }

abbrev pub jam : World
jam =
    record {
      rows = standing Queue 0 0 ∷ standing Buffer 1 0 ∷ standing Queue 2 1 ∷ standing Buffer 3 1 ∷ standing Queue 4 2 ∷ standing Buffer 5 2 ∷ [];
      persons = [];
      credits = 3600000 ∷ 3600000 ∷ 3600000 ∷ 3600000 ∷ [];
      holes = [];
    }

abbrev pub line : Option ℕ → Setup
line hole_speed =
    record (town (one_lane 0 1 50 3600 ∷ one_lane 1 2 50 3600 ∷ one_lane 2 3 50 3600 ∷ one_lane 3 4 50 3600 ∷ []) [] []
    (record (traffic false 6) { stuck = record { seconds = 100; push = false }; hole_speed = hole_speed }))
    { nodes = 5 }

-- cars that enter these links in these seconds
abbrev pub entering : List (ℕ × ℕ) → List (ℕ × Word × Option ℕ × Option ℕ)
entering moves = map (λ (m : ℕ × ℕ). (m.0, word.EnteredLink, None, Some m.1)) moves
