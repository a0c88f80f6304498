-- What a partition does by itself in a second: the same turns as in the day, on what it holds.
use Rattle.traffic.specs.{Day.Turn, Day.moves_of, Day.events_in, Links.LinkState, Links.rules, Links.link_moves, Lists.below, Moves.told, Moves.at_after}
use Rattle.traffic.specs.{Moves.credit_after, Moves.hole_after, Moves.person_after_all, Nodes.NodeView, Nodes.in_force, Nodes.node_moves}
use Rattle.traffic.specs.Persons.{landing_moves, leaving_moves, departure_moves, waiter}
use Rattle.traffic.specs.Setup.{Setup, link_row, seconds_of, storage_of, hole_of, into, departure, act_after}
use Rattle.traffic.specs.declared.{moves.Move.Move, moves.Occurrence.Occurrence, node_views.InLink.InLink, node_views.OutLink.OutLink, riders.Rider.Rider}
use Rattle.traffic.specs.declared.stage.Stage.{Stage, TheVariants.Queue, TheVariants.Buffer, TheVariants.Wait, TheVariants.Bay}
use Rattle.traffic.specs.declared.world.{Person.Person, Place.Place, Row.Row, Waiter.Waiter}
use Rattle.std.specs.{List.flat_map, Prelude.ℕ, Prelude.Bool, Prelude.◌++◌, Prelude.suc, Prelude.not, Prelude.◌&&◌}
use Rattle.std.specs.Prelude.{nat_le, sum_by, replicate, false, ◌+◌, ◌-◌, List, [], ◌∷◌, length, map, filter, ◌==◌, get_or, if◌then◌else◌, Option, None, Some}
use Rattle.events.specs.declared.event.{Event.Event, VehicleId.VehicleId}
use Rattle.events.specs.declared.event.Phase.TheVariants as phase
use Rattle.traffic.specs.declared.world.Place.TheVariants as place
use Rattle.parts.specs.Owners.{Owner, owner_of, begins_in, leads, links_of, near, lag}
use Rattle.parts.specs.Parts.{Held, Passed, Flight, Freed, is_some_freed, Parcel, enters_queue, frees, freed, lasting, is_person, rides_in, flight_at, out}

-- the row of a person after what is told, where the part has it
abbrev pub after_told : Setup → ℕ → ℕ → List Occurrence → Option Person → Option Person
after_told S t i es None = None
after_told S t i es (Some P) = Some (person_after_all S t i es P)

-- What it holds after a move of second t. A row that leaves over a border stands in the list of a link that is not its own.
abbrev pub held_done : Setup → ℕ → Move → Held → Held
held_done S t m H =
    record {
      list = λ l s. at_after l s m (H.list l s);
      credit = λ l. credit_after l m (H.credit l);
      rows = λ l. (H.rows l + length (enters_queue (λ a. a == l) m)) - frees l m;
      holes = λ l. hole_after l m (H.holes l);
      person = λ i. after_told S t i (told m) (H.person i);
    }

abbrev pub held_run : Setup → ℕ → List Move → Held → Held
held_run S t [] H = H
held_run S t (m ∷ ms) H = held_run S t ms (held_done S t m H)

-- what its nodes see
abbrev pub taken_here : Setup → ℕ → Held → ℕ → ℕ
taken_here S t H m = H.rows m + in_force t (hole_of S m) (H.holes m)

abbrev pub in_link_here : Setup → ℕ → Held → ℕ → InLink
in_link_here S t H l = record { link = l; capacity = (link_row S l).capacity; green = S.green l t; rows = H.list l Buffer }

abbrev pub out_link_here : Setup → ℕ → ℕ → Held → ℕ → Option OutLink
out_link_here S t n H m =
    if (link_row S m).from == n
    then Some (record { taken = taken_here S t H m; storage = storage_of S m; seconds = seconds_of S m })
    else None

abbrev pub see : Setup → ℕ → ℕ → Held → NodeView
see S t n H = record { in_links = map (in_link_here S t H) (into S n); out_links = out_link_here S t n H }

-- what its links see
abbrev pub state_here : ℕ → Held → LinkState
state_here l H = record { queue = H.list l Queue; buffer = H.list l Buffer; wait = H.list l Wait; bay = H.list l Bay; credit = H.credit l }

abbrev pub waiter_here : Setup → ℕ → ℕ → Option Person → List Waiter
waiter_here S l i None = []
waiter_here S l i (Some P) = waiter S l i P

unfoldable pub waiters_here : Setup → ℕ → Held → List Waiter
waiters_here S l H = flat_map (λ i. waiter_here S l i (H.person i)) (below (length S.persons))

-- what a person does whose row it has
abbrev pub acts : (ℕ → Person → List Move) → ℕ → Option Person → List Move
acts f i None = []
acts f i (Some P) = f i P

-- the numbers of its nodes, its links, and the departures that begin there
abbrev pub my_nodes : Setup → Owner → ℕ → List ℕ
my_nodes S own p = filter (λ n. own n == p) (below S.nodes)

abbrev pub my_links : Setup → Owner → ℕ → List ℕ
my_links S own p = filter (λ l. owner_of S own l == p) (below (length S.links))

-- the link on which a departure begins
abbrev pub first_of : Setup → ℕ → ℕ
first_of S d = get_or (departure S d).route 0 0

abbrev pub my_runs : Setup → Owner → ℕ → List ℕ
my_runs S own p = filter (λ d. owner_of S own (first_of S d) == p) (below (length S.departures))

-- its turns of each phase, at once
abbrev pub A_part : Setup → ℕ → Held → List Turn
A_part S t H = map (λ i. record { number = i; moves = acts (landing_moves S t) i (H.person i) }) (below (length S.persons))

abbrev pub B1_part : Setup → ℕ → Held → List Turn
B1_part S t H = map (λ i. record { number = i; moves = acts (leaving_moves S t) i (H.person i) }) (below (length S.persons))

abbrev pub B2_part : Setup → Owner → ℕ → ℕ → List Turn
B2_part S own p t = map (λ d. record { number = d; moves = departure_moves S t d }) (my_runs S own p)

abbrev pub C_part : Setup → Owner → ℕ → ℕ → Held → List Turn
C_part S own p t H = map (λ n. record { number = n; moves = node_moves S.settings.stuck t (S.word n) (see S t n H) }) (my_nodes S own p)

abbrev pub D_part : Setup → Owner → ℕ → ℕ → Held → List Turn
D_part S own p t H =
    map (λ l. record { number = l; moves = link_moves (rules S l) t l (waiters_here S l H) (state_here l H) }) (my_links S own p)

-- what it holds before phase C, after phase C and after phase D
abbrev pub after_A : Setup → ℕ → Held → Held
after_A S t H = held_run S t (moves_of (A_part S t H)) H

abbrev pub after_B1 : Setup → ℕ → Held → Held
after_B1 S t H = held_run S t (moves_of (B1_part S t H)) H

abbrev pub after_B2 : Setup → Owner → ℕ → ℕ → Held → Held
after_B2 S own p t H = held_run S t (moves_of (B2_part S own p t)) H

abbrev pub early : Setup → Owner → ℕ → ℕ → Held → Held
early S own p t H = after_B2 S own p t (after_B1 S t (after_A S t H))

abbrev pub after_C : Setup → Owner → ℕ → ℕ → Held → Held
after_C S own p t H = held_run S t (moves_of (C_part S own p t H)) H

abbrev pub after_D : Setup → Owner → ℕ → ℕ → Held → Held
after_D S own p t H = held_run S t (moves_of (D_part S own p t H)) H

-- WHAT LEAVES
-- the rows that its nodes put into queues of other partitions
abbrev pub sent_out : Setup → Owner → ℕ → List Move → List Row
sent_out S own p ms = flat_map (enters_queue (λ m. not (owner_of S own m == p))) ms

-- a person who in second t set out on a flight to another partition, or rides in one of these rows
abbrev pub goes_out : Setup → Owner → ℕ → ℕ → List Row → ℕ → ℕ → Place → Bool
goes_out S own p t rows i element (place.Teleporting start) = (start == t) && not (owner_of S own (act_after S i element).link == p)
goes_out S own p t rows i element (place.Riding v) = rides_in i rows
goes_out S own p t rows i element _ = false

abbrev pub if_stays : Setup → Owner → ℕ → ℕ → List Row → ℕ → Option Person → Option Person
if_stays S own p t rows i None = None
if_stays S own p t rows i (Some P) = if goes_out S own p t rows i P.element P.place then None else Some P

-- the second t of p on what it holds: without what leaves it, and without the holes that no longer count
unfoldable pub alone : Setup → Owner → ℕ → ℕ → Held → Held
alone S own p t H =
    let E = early S own p t H in
    let ms = moves_of (C_part S own p t E) in
    let B = after_D S own p t (after_C S own p t E) in
    record {
      list = λ l s. if owner_of S own l == p then B.list l s else [];
      credit = λ l. if owner_of S own l == p then B.credit l else 0;
      rows = λ m. if begins_in S own m == p then B.rows m else 0;
      holes = λ m. if begins_in S own m == p then lasting (suc t) (hole_of S m) (B.holes m) else [];
      person = λ i. if_stays S own p t (sent_out S own p ms) i (B.person i);
    }

-- the parcel that it then sends to q
abbrev pub element_in : Option Person → ℕ
element_in None = 0
element_in (Some P) = P.element

abbrev pub passed_here : Held → Row → Passed
passed_here H row = record { row = row; elements = map (λ (x : Rider). element_in (H.person x.person)) row.vehicle.riders }

abbrev pub flight_to : Setup → Owner → ℕ → ℕ → ℕ → Option Person → List Flight
flight_to S own q t i None = []
flight_to S own q t i (Some P) = if owner_of S own (act_after S i P.element).link == q then flight_at S t i P.element P.place else []

unfoldable pub parcel_to : Setup → Owner → ℕ → ℕ → Held → ℕ → Parcel
parcel_to S own p t H q =
    let E = early S own p t H in
    let A = after_C S own p t E in
    let B = after_D S own p t A in
    record {
      vehicles = map (passed_here H) (flat_map (enters_queue (leads S own p q)) (moves_of (C_part S own p t E)));
      flights = flat_map (λ i. flight_to S own q t i (B.person i)) (below (length S.persons));
      freed = filter is_some_freed
          (map (λ l. record { link = l; rows = freed l (moves_of (D_part S own p t A)) }) (filter (leads S own q p) (links_of S)));
    }

-- what it tells in its second
unfoldable pub tells_alone : Setup → Owner → ℕ → ℕ → Held → List Event
tells_alone S own p t H =
    let H1 = after_A S t H in
    let E = early S own p t H in
    events_in t phase.A (A_part S t H)
    ++ (events_in t phase.B1 (B1_part S t H1)
    ++ (events_in t phase.B2 (B2_part S own p t)
    ++ (events_in t phase.C (C_part S own p t E)
    ++ events_in t phase.D (D_part S own p t (after_C S own p t E)))))

-- WHAT IS ABSORBED
abbrev pub rows_to : ℕ → Option Parcel → List Row
rows_to l None = []
rows_to l (Some x) = filter (λ (r : Row). r.link == l) (map (λ (y : Passed). y.row) x.vehicles)

abbrev pub freed_in : ℕ → Freed → ℕ
freed_in m f = if f.link == m then f.rows else 0

abbrev pub freed_of : ℕ → Option Parcel → ℕ
freed_of m None = 0
freed_of m (Some x) = sum_by (freed_in m) x.freed

-- the row of a person among these riders of vehicle v
abbrev pub riding : ℕ → VehicleId → List Rider → List ℕ → List Person
riding i v [] es = []
riding i v (r ∷ rs) [] = []
riding i v (r ∷ rs) (e ∷ es) = (if r.person == i then record { element = e; place = place.Riding v } ∷ [] else []) ++ riding i v rs es

abbrev pub flying : ℕ → ℕ → Flight → List Person
flying i s f = if f.person == i then record { element = f.element; place = place.Teleporting s } ∷ [] else []

-- the row of a person in the parcel of second s
abbrev pub person_in : ℕ → ℕ → Option Parcel → List Person
person_in i s None = []
person_in i s (Some x) =
    flat_map (λ (y : Passed). riding i y.row.vehicle.id y.row.vehicle.riders y.elements) x.vehicles ++ flat_map (flying i s) x.flights

abbrev pub or_first : Option Person → List Person → Option Person
or_first (Some P) ps = Some P
or_first None [] = None
or_first None (P ∷ ps) = Some P

abbrev pub with_rows : Stage → List Row → List Row → List Row
with_rows Queue xs ys = xs ++ ys
with_rows _ xs ys = xs

-- p absorbs before second t what each of so many partitions sent to it: got q is the parcel of second t - lag q p
unfoldable pub absorb : Setup → Owner → ℕ → ℕ → ℕ → (ℕ → Option Parcel) → Held → Held
absorb S own parts p t got H =
    record {
      list = λ l s. if owner_of S own l == p then with_rows s (H.list l s) (rows_to l (got (begins_in S own l))) else [];
      credit = H.credit;
      rows = λ m. if begins_in S own m == p then H.rows m - freed_of m (got (owner_of S own m)) else 0;
      holes = λ m.
          if begins_in S own m == p
          then H.holes m ++ replicate (freed_of m (got (owner_of S own m))) (t - lag S own (owner_of S own m) p)
          else [];
      person = λ i.
          if is_person S i then or_first (H.person i) (flat_map (λ q. person_in i (t - lag S own q p) (got q)) (below parts)) else None;
    }

-- the parcels that p absorbs before second t
abbrev pub given : Setup → Owner → ℕ → ℕ → ℕ → Option Parcel
given S own p t q = if near S own q p && nat_le (lag S own q p) t then Some (out S own q p (t - lag S own q p)) else None
