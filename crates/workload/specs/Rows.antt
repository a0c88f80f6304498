-- The rows of a grid's files.
use Rattle.std.specs.Prelude.{ℕ, ◌+◌, ◌-◌, ◌*◌, ◌/◌, ◌%◌, List, [], ◌∷◌, ◌++◌, map, codes, decimal, Option, None, Some}
use Rattle.std.specs.List.{range_with_len, join_with_byte}
use Rattle.records.specs.Rows.{Row}
use Rattle.workload.specs.declared.TheConstants.{NODE_DISTANCE, FREE_SPEED, LINK_CAPACITY, WALK_SECONDS, WORK_SECONDS, STOP_SECONDS, FIRST_DEPARTURE}
use Rattle.workload.specs.declared.{TheConstants.DEPARTURE_GAP, TheConstants.SEATS, commuters.Commute.Commute, commuters.Commuter.Commuter}
use Rattle.workload.specs.declared.commuters.Commute.TheVariants as commute
use Rattle.plan_text.specs.Lines.{end_text}

-- names: n7, l7_8, p7, s7, d7
abbrev pub node_name : ℕ → List ℕ
node_name node = codes "n" ++ decimal node

abbrev pub link_name : ℕ × ℕ → List ℕ
link_name link = codes "l" ++ decimal link.0 ++ codes "_" ++ decimal link.1

abbrev pub person_name : ℕ → List ℕ
person_name person = codes "p" ++ decimal person

abbrev pub stop_name : ℕ → List ℕ
stop_name stop = codes "s" ++ decimal stop

abbrev pub departure_name : ℕ → List ℕ
departure_name departure = codes "d" ++ decimal departure

-- nodes.csv: a node's name, and where it lies, its column to the right and its row up
abbrev pub node_row : ℕ → ℕ → Row
node_row size node = node_name node ∷ decimal (node % size * NODE_DISTANCE) ∷ decimal (node / size * NODE_DISTANCE) ∷ []

-- links.csv: a link's name, its two nodes, its length, its free speed, its capacity and its lanes
abbrev pub link_row : ℕ × ℕ → Row
link_row link =
    link_name link
    ∷ node_name link.0
    ∷ node_name link.1
    ∷ decimal NODE_DISTANCE
    ∷ decimal FREE_SPEED
    ∷ decimal LINK_CAPACITY
    ∷ codes "1"
    ∷ []

-- plans.csv: an activity, which ends in a second or has no end
abbrev pub act_row : ℕ → List ℕ → ℕ × ℕ → Option ℕ → Row
act_row person kind link end = person_name person ∷ codes "0" ∷ codes "act" ∷ kind ∷ link_name link ∷ end_text end ∷ [] ∷ []

-- a leg, with its mode, its seconds and its route
abbrev pub leg_row : ℕ → List ℕ → List ℕ → List ℕ → Row
leg_row person mode seconds route = person_name person ∷ codes "0" ∷ codes "leg" ∷ mode ∷ [] ∷ seconds ∷ route ∷ []

abbrev pub walk_row : ℕ → Row
walk_row person = leg_row person (codes "walk") (decimal WALK_SECONDS) []

-- the way to work: by bus from its first stop to its last one, on foot, or by car over a route that is still to be found
abbrev pub way_there : ℕ → ℕ → Commute → Row
way_there size person commute.Bus = leg_row person (codes "pt") [] (codes "bus s0 " ++ stop_name (size - 2))
way_there size person commute.Walk = walk_row person
way_there size person commute.Car = leg_row person (codes "car") [] []

-- the way back: who came by bus walks
abbrev pub way_back : ℕ → Commute → Row
way_back person commute.Bus = walk_row person
way_back person commute.Walk = walk_row person
way_back person commute.Car = leg_row person (codes "car") [] []

-- a person's plan: home, the way to work, work for eight hours, the way back, home
abbrev pub person_rows : ℕ → ℕ → Commuter → List Row
person_rows size person c =
    act_row person (codes "home") c.home (Some c.leaves)
    ∷ way_there size person c.commute
    ∷ act_row person (codes "work") c.work (Some (c.leaves + WORK_SECONDS))
    ∷ way_back person c.commute
    ∷ act_row person (codes "home") c.home None
    ∷ []

-- stops.csv: a stop on each link of the first row that leads to the right
abbrev pub stop_row : ℕ → Row
stop_row stop = stop_name stop ∷ link_name (stop, stop + 1) ∷ []

-- routes.csv: the one route of the one line, over these links, with a call at each stop, a minute after the one before
abbrev pub call_text : ℕ → List ℕ
call_text stop = stop_name stop ++ codes ":" ++ decimal (stop * STOP_SECONDS)

abbrev pub route_row : ℕ → Row
route_row size =
    codes "bus"
    ∷ codes "east"
    ∷ join_with_byte 32 (map (λ stop. link_name (stop, stop + 1)) (range_with_len 0 (size - 1)))
    ∷ join_with_byte 32 (map call_text (range_with_len 0 (size - 1)))
    ∷ []

-- departures.csv: one every ten minutes from 6 o'clock on
abbrev pub departure_row : ℕ → Row
departure_row departure =
    departure_name departure ∷ codes "east" ∷ decimal (FIRST_DEPARTURE + departure * DEPARTURE_GAP) ∷ decimal SEATS ∷ []
