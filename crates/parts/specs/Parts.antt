-- What a partition has, what it sends, and what it tells.
use Rattle.std.specs.List.{flat_map, list_any}
use Rattle.std.specs.Prelude.{ℕ, zero, suc, ◌+◌, ◌-◌, Bool, false, not, ◌&&◌, ◌||◌, List, [], ◌∷◌, ◌++◌, length, map, filter, take, get_or, sum_by, ◌==◌}
use Rattle.std.specs.Prelude.{nat_le, nat_lt, is_some, if◌then◌else◌, Option, None, Some}
use Rattle.events.specs.{Keys.phase_code, declared.event.Event.Event, declared.event.Phase.Phase}
use Rattle.events.specs.declared.event.Phase.TheVariants as phase
use Rattle.traffic.specs.Day.{moves_of, turns_in, through, keyed, world_start, world_at, events_from}
use Rattle.traffic.specs.{Lists.below, Persons.stranded, Rows.World, Rows.on, Rows.at, Rows.holes_at, Rows.credit_of, Rows.person_of, Setup.Setup, Setup.leg_at}
use Rattle.traffic.specs.{Setup.act_at, Setup.seconds_of, Setup.hole_of, Vehicles.VehicleState, Worlds.listed, declared.moves.Move.Move}
use Rattle.traffic.specs.declared.{riders.Rider.Rider, stage.Stage.Stage, stage.Stage.TheVariants.Queue, world.Person.Person, world.Place.Place, world.Row.Row}
use Rattle.traffic.specs.declared.world.Place.TheVariants as place
use Rattle.traffic.specs.declared.moves.Move.TheVariants as move
use Rattle.rows.specs.declared.plan.Leg.{Leg}
use Rattle.rows.specs.declared.plan.Leg.TheVariants as leg
use Rattle.parts.specs.Owners.{Owner, owner_of, begins_in, crosses, owner_of_person, leads, links_of, near, lag, owner_of_event}

-- what a partition has: the four lists and the credit of each link, of each link that begins there how many rows stand in its queue and
-- the seconds of its holes, and its persons
pub record Held : Type 0 where
  pub list : ℕ → Stage → List Row
  pub credit : ℕ → ℕ
  pub rows : ℕ → ℕ
  pub holes : ℕ → List ℕ
  pub person : ℕ → Option Person

-- the holes that still count from second t on
abbrev pub lasting : ℕ → ℕ → List ℕ → List ℕ
lasting t h holes = filter (λ s. nat_le t (s + h)) holes

abbrev pub mine : {X : Type 0} → Bool → X → Option X
mine own x = if own then Some x else None

abbrev pub is_person : Setup → ℕ → Bool
is_person S i = nat_lt i (length S.persons)

-- the part of p in a world after t seconds
abbrev pub part : Setup → Owner → ℕ → ℕ → World → Held
part S own p t W =
    record {
      list = λ l s. if owner_of S own l == p then at l s W else [];
      credit = λ l. if owner_of S own l == p then credit_of l W else 0;
      rows = λ m. if begins_in S own m == p then length (at m Queue W) else 0;
      holes = λ m. if begins_in S own m == p then lasting t (hole_of S m) (holes_at m W) else [];
      person = λ i. mine (is_person S i && (owner_of_person S own W i == p)) (person_of i W);
    }

-- THE SECONDS OF THE DAY
-- the moves of a phase of second t, after the phases before it
abbrev pub moves_in : Setup → ℕ → List Phase → Phase → List Move
moves_in S t before p = moves_of (turns_in S t p (through S t before (world_at S t)))

abbrev pub node_phase_moves : Setup → ℕ → List Move
node_phase_moves S t = moves_in S t (phase.A ∷ phase.B1 ∷ phase.B2 ∷ []) phase.C

abbrev pub link_phase_moves : Setup → ℕ → List Move
link_phase_moves S t = moves_in S t (phase.A ∷ phase.B1 ∷ phase.B2 ∷ phase.C ∷ []) phase.D

-- the rows that a move puts into a queue of these links
abbrev pub enters_queue : (ℕ → Bool) → Move → List Row
enters_queue p (move.Transfer l s k was now) = if p now.link && on now.link Queue now then now ∷ [] else []
enters_queue p _ = []

-- how many places of the queue of link l a move leaves
abbrev pub frees : ℕ → Move → ℕ
frees l (move.LeaveHole a t) = if a == l then 1 else 0
frees l _ = 0

abbrev pub freed : ℕ → List Move → ℕ
freed l ms = sum_by (frees l) ms

-- what phase C of second t put into the queue of link l, and how many rows left that queue in phase D
abbrev pub came : Setup → ℕ → ℕ → List Row
came S l t = flat_map (enters_queue (λ m. m == l)) (node_phase_moves S t)

abbrev pub went : Setup → ℕ → ℕ → ℕ
went S l t = freed l (link_phase_moves S t)

-- the same of the last k seconds before t
unfoldable pub came_last : Setup → ℕ → ℕ → ℕ → List Row
came_last S l zero k = []
came_last S l (suc t) zero = []
came_last S l (suc t) (suc k) = came_last S l t k ++ came S l t

unfoldable pub went_last : Setup → ℕ → ℕ → ℕ → ℕ
went_last S l zero k = 0
went_last S l (suc t) zero = 0
went_last S l (suc t) (suc k) = went_last S l t k + went S l t

-- PARCELS
-- a vehicle that crosses a border, with the elements of its riders
pub record Passed : Type 0 where
  pub row : Row
  pub elements : List ℕ

-- a person who flies over a border, with his element and the second in which he lands
pub record Flight : Type 0 where
  pub person : ℕ
  pub element : ℕ
  pub due : ℕ

-- how many rows left the queue of a link
pub record Freed : Type 0 where
  pub link : ℕ
  pub rows : ℕ

-- whether any did; a parcel says nothing of the other links
abbrev pub is_some_freed : Freed → Bool
is_some_freed f = nat_lt 0 f.rows

pub record Parcel : Type 0 where
  pub vehicles : List Passed
  pub flights : List Flight
  pub freed : List Freed

-- The row of a vehicle as it enters the queue of its link in second t: with its vehicle and the second of the parcel a row that crosses
-- the border is known whole.
abbrev pub entering_row : Setup → ℕ → VehicleState → Row
entering_row S t v =
    let l = get_or v.route v.place 0 in
    record { vehicle = v; link = l; stage = Queue; second = t + seconds_of S l }

abbrev pub passed : World → Row → Passed
passed W row = record { row = row; elements = map (λ (x : Rider). (person_of x.person W).element) row.vehicle.riders }

abbrev pub seconds_of_way : Leg → ℕ
seconds_of_way (leg.Teleport mode seconds) = seconds
seconds_of_way _ = 0

-- the flight of a person at this place, where it began in second t
abbrev pub flight_at : Setup → ℕ → ℕ → ℕ → Place → List Flight
flight_at S t i element (place.Teleporting start) =
    if start == t then record { person = i; element = element; due = start + seconds_of_way (leg_at S i element) } ∷ [] else []
flight_at S t i element _ = []

-- where a flight of person i began and where it ends
abbrev pub flies_from : Setup → Owner → ℕ → ℕ → ℕ
flies_from S own i element = owner_of S own (act_at S i element).link

-- those whom second t sent flying from p to q, by number
abbrev pub flight_from : Setup → Owner → ℕ → ℕ → ℕ → World → ℕ → List Flight
flight_from S own p q t W i =
    let P = person_of i W in
    if (flies_from S own i P.element == p) && (owner_of_person S own W i == q) then flight_at S t i P.element P.place else []

-- The parcel of second t from p to q: the vehicles that phase C moved from p's links to q's, the persons whom phase B1 sent flying from
-- p to q, and for each link of p that begins in q how many rows left its queue in phase D, where any did.
unfoldable pub out : Setup → Owner → ℕ → ℕ → ℕ → Parcel
out S own p q t =
    record {
      vehicles = map (passed (world_at S t)) (flat_map (enters_queue (leads S own p q)) (node_phase_moves S t));
      flights = flat_map (flight_from S own p q t (world_at S (suc t))) (below (length S.persons));
      freed = filter is_some_freed (map (λ l. record { link = l; rows = went S l t }) (filter (leads S own q p) (links_of S)));
    }

-- WHAT IS NOT HEARD OF
-- For how many seconds the end of a link has not heard of what its begin did, and its begin of what its end did, where p has not heard of
-- the last k q p seconds of q.
abbrev pub down : Setup → Owner → (ℕ → ℕ → ℕ) → ℕ → ℕ
down S own k l = if crosses S own l then k (begins_in S own l) (owner_of S own l) else 0

abbrev pub up : Setup → Owner → (ℕ → ℕ → ℕ) → ℕ → ℕ
up S own k l = if crosses S own l then k (owner_of S own l) (begins_in S own l) else 0

-- the rows of link l that came in the last seconds of which its end has not heard
abbrev pub late_rows : Setup → Owner → (ℕ → ℕ → ℕ) → ℕ → ℕ → List Row
late_rows S own k t l = came_last S l t (down S own k l)

-- the list without them
abbrev pub known_list : Setup → Owner → (ℕ → ℕ → ℕ) → ℕ → ℕ → Stage → List Row
known_list S own k t l Queue =
    let rows = at l Queue (world_at S t) in
    take (length rows - length (late_rows S own k t l)) rows
known_list S own k t l s = at l s (world_at S t)

-- whether one of these rows has a person among its riders
abbrev pub rides_in : ℕ → List Row → Bool
rides_in i rows = nat_lt 0 (listed i rows)

-- the rows that came to p in the last seconds of which it has not heard
abbrev pub all_late : Setup → Owner → (ℕ → ℕ → ℕ) → ℕ → ℕ → List Row
all_late S own k p t = flat_map (late_rows S own k t) (filter (λ l. owner_of S own l == p) (links_of S))

-- Whether p has not heard of a person at this place, who is its own: he rides in one of these rows, or his flight to p began in one of the
-- last k seconds before t in another partition.
abbrev pub is_late : Setup → Owner → (ℕ → ℕ → ℕ) → ℕ → ℕ → ℕ → ℕ → Place → Bool
is_late S own k p t i element (place.Riding v) = rides_in i (all_late S own k p t)
is_late S own k p t i element (place.Teleporting start) =
    let q = flies_from S own i element in
    not (q == p) && nat_le t (start + k q p)
is_late S own k p t i element _ = false

-- whether p knows of a person of its own
abbrev pub knows_of : Setup → Owner → (ℕ → ℕ → ℕ) → ℕ → ℕ → ℕ → Bool
knows_of S own k p t i =
    let P = person_of i (world_at S t) in
    not (is_late S own k p t i P.element P.place)

-- the persons of p of whom it knows
abbrev pub has : Setup → Owner → (ℕ → ℕ → ℕ) → ℕ → ℕ → ℕ → Bool
has S own k p t i = is_person S i && ((owner_of_person S own (world_at S t) i == p) && knows_of S own k p t i)

-- What p has by itself after t seconds where it has not heard of the last k q p seconds of each q: its part without the vehicles, riders
-- and flights that came to it in them, and with the rows that left over there in them counted as rows and not as holes.
unfoldable pub unheard : Setup → Owner → (ℕ → ℕ → ℕ) → ℕ → ℕ → Held
unheard S own k p t =
    let W = world_at S t in
    record {
      list = λ l s. if owner_of S own l == p then known_list S own k t l s else [];
      credit = λ l. if owner_of S own l == p then credit_of l W else 0;
      rows = λ m. if begins_in S own m == p then length (at m Queue W) + went_last S m t (up S own k m) else 0;
      holes = λ m. if begins_in S own m == p then lasting t (hole_of S m) (holes_at m (world_at S (t - up S own k m))) else [];
      person = λ i. mine (has S own k p t i) (person_of i W);
    }

-- what p has after t seconds before it absorbs anything, and what it has once it has absorbed one parcel of each neighbour
abbrev pub held : Setup → Owner → ℕ → ℕ → Held
held S own p t = unheard S own (lag S own) p t

abbrev pub ready : Setup → Owner → ℕ → ℕ → Held
ready S own p t = unheard S own (λ q x. lag S own q x - 1) p t

-- WHAT IT TELLS
-- the events before second t that belong to p
unfoldable pub own_events : Setup → Owner → ℕ → ℕ → List Event
own_events S own p t = filter (λ (e : Event). owner_of_event S own e == p) (events_from S (world_start S) t)

-- the parcels that p sent to q in the last seconds of which q has not heard at the end of second t
unfoldable pub sent_last : Setup → Owner → ℕ → ℕ → ℕ → ℕ → List Parcel
sent_last S own p q zero k = []
sent_last S own p q (suc t) zero = []
sent_last S own p q (suc t) (suc k) = sent_last S own p q t k ++ out S own p q t ∷ []

-- whether a parcel has a person
abbrev pub carries : ℕ → Parcel → Bool
carries i x = rides_in i (map (λ (y : Passed). y.row) x.vehicles) || list_any (λ (f : Flight). f.person == i) x.flights

-- the person's event at the end belongs to p: p has him, or sent him in a parcel that is not absorbed
abbrev pub ends_with : Setup → Owner → ℕ → ℕ → ℕ → Bool
ends_with S own parts p i =
    is_some ((held S own p S.settings.end_second).person i)
    || list_any (λ q. near S own p q && list_any (carries i) (sent_last S own p q S.settings.end_second (lag S own p q))) (below parts)

-- the events of phase E that belong to p, among so many partitions
unfoldable pub own_end_events : Setup → Owner → ℕ → ℕ → List Event
own_end_events S own parts p =
    flat_map (λ i. keyed S.settings.end_second (phase_code phase.E) i 0 (stranded S (world_at S S.settings.end_second) i))
    (filter (ends_with S own parts p) (below (length S.persons)))
