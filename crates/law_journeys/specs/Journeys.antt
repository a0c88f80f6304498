-- The laws of journeys: what holds in every second of every day.
use Rattle.std.specs.Prelude.{◌≡◌, ℕ, ◌+◌, ◌<◌, ◌≤◌, Bool, true, false, ◌&&◌, ◌||◌, List, [], ◌∷◌, ◌++◌, length, map, filter, take, drop, get_or, count_by, ◌==◌, All, Option, None, Some}
use Rattle.events.specs.{Persons.names, declared.event.VehicleId.VehicleId, declared.event.Word.Word}
use Rattle.events.specs.declared.event.Word.TheVariants as word
use Rattle.events.specs.declared.event.More.TheVariants as more
use Rattle.events.specs.declared.lists.StopCall.{StopCall}
use Rattle.events.specs.declared.event.VehicleId.TheVariants as vehicle
use Rattle.rows.specs.declared.plan.{Act.Act, Leg.Leg}
use Rattle.rows.specs.declared.plan.Leg.TheVariants as leg
use Rattle.traffic.specs.{Stops.call_at, Stops.stand, Day.day, Day.events_from, Day.world_start, Day.world_at, Persons.same_vehicle, Worlds.rows_of, Moves.ends_at, Setup.leg_at, Setup.link_row, Setup.person_plan, Rows.World, Rows.at, Setup.Setup, Setup.departure, Setup.seconds_of, Vehicles.VehicleState}
use Rattle.traffic.specs.declared.{riders.Rider.Rider, stage.Stage.TheVariants.Queue}
use Rattle.traffic.specs.declared.world.Row.{Row}
use Rattle.law_journeys.specs.News.{News, news, events_in_seconds}

-- SEATS
-- the only rider of a car is its driver; a transit vehicle has no more riders than seats
abbrev pub IsSeated : Setup → VehicleState → VehicleId → Type 0
IsSeated S v (vehicle.Car i) = (length v.riders ≡ 1) × All (λ (x : Rider). x.person ≡ i) v.riders
IsSeated S v (vehicle.Transit d) = length v.riders ≤ (departure S d).seats

-- after t seconds of the day each vehicle has a seat for each rider
abbrev pub KeepsSeats : Setup → ℕ → Type 0
KeepsSeats S t = All (λ (r : Row). IsSeated S r.vehicle r.vehicle.id) (world_at S t).rows

-- QUEUES
-- a vehicle, and the first second in which it may leave the queue
abbrev pub Queued : Type 0
Queued = Option VehicleId × ℕ

-- the queue of a link in a world, its front first
abbrev pub queue_of : ℕ → World → List Queued
queue_of l W = map (λ (r : Row). (Some r.vehicle.id, r.second)) (at l Queue W)

-- a vehicle enters link l
abbrev pub is_entered_link : Word → Bool
is_entered_link word.EnteredLink = true
is_entered_link _ = false

abbrev pub enters_link : ℕ → News → Bool
enters_link l e = is_entered_link e.what.word && names l e.what.link

-- the vehicles that enter link l, in order; each may leave the queue once its free-flow seconds are over
abbrev pub entering : Setup → ℕ → List News → List Queued
entering S l es = map (λ (e : News). (e.what.vehicle, e.second + seconds_of S l)) (filter (enters_link l) es)

-- the queue of link l after t seconds of the day, followed by the vehicles that enter in the next n seconds
abbrev pub queue_and_entering : Setup → ℕ → ℕ → ℕ → List Queued
queue_and_entering S l t n = queue_of l (world_at S t) ++ entering S l (news (events_in_seconds S t n))

-- The queue of link l is first in, first out over the n seconds from second t on, and no vehicle leaves it before its free-flow seconds are
-- over. Take the queue at the start, followed by the vehicles that enter in these seconds. The first so many of them have left, each no
-- earlier than it may; the others are the queue at the end, in the same order.
abbrev pub IsFirstInFirstOut : Setup → ℕ → ℕ → ℕ → Type 0
IsFirstInFirstOut S l t n =
    (left : ℕ)
    × All (λ (q : Queued). q.1 < t + n) (take left (queue_and_entering S l t n))
    × (queue_of l (world_at S (t + n)) ≡ drop left (queue_and_entering S l t n))

-- FREE FLOW
-- e comes before f: if e is that a vehicle enters a link, and f names this vehicle on this link, the free-flow seconds are over in f
abbrev pub IsFreeFlow : Setup → News → News → Type 0
IsFreeFlow S e f =
    (v : VehicleId) (l : ℕ) → e.what.word ≡ word.EnteredLink → e.what.vehicle ≡ Some v → e.what.link ≡ Some l
    → f.what.vehicle ≡ Some v → f.what.link ≡ Some l → e.second + seconds_of S l ≤ f.second

abbrev pub AreFreeFlow : Setup → List News → Type 0
AreFreeFlow S [] = Unit {0}
AreFreeFlow S (e ∷ es) = All (IsFreeFlow S e) es × AreFreeFlow S es

-- in the whole day no event names a vehicle on a link that it entered, before the free-flow seconds of the link are over
abbrev pub KeepsFreeFlow : Setup → Type 0
KeepsFreeFlow S = AreFreeFlow S (news (day S))

-- CONTINUITY
-- the first of these links ends where the second one begins
abbrev pub AreJoined : Setup → Option ℕ → Option ℕ → Type 0
AreJoined S (Some a) (Some b) = (link_row S a).to ≡ (link_row S b).from
AreJoined S _ _ = ⊥

-- a vehicle leaves a link and, in the same second, enters one that begins where the first one ends
pub record IsCrossing (S : Setup) (left entered : News) : Type 0 where
  pub left_link : left.what.word ≡ word.LeftLink
  pub vehicle : left.what.vehicle ≡ entered.what.vehicle
  pub second : left.second ≡ entered.second
  pub joined : AreJoined S left.what.link entered.what.link

abbrev pub IsDrivenFrom : ℕ → Leg → Type 0
IsDrivenFrom l (leg.Car route) = get_or route 0 0 ≡ l
IsDrivenFrom l _ = ⊥

-- the journey of a vehicle begins on link l: a car leg of its driver does, or the route of its departure
abbrev pub BeginsOn : Setup → ℕ → VehicleId → Type 0
BeginsOn S l (vehicle.Car i) = (k : ℕ) × IsDrivenFrom l (leg_at S i k)
BeginsOn S l (vehicle.Transit d) = get_or (departure S d).route 0 0 ≡ l

-- How a vehicle may join a link: it enters the link, and the event before is that it left the one before; or it enters traffic where its
-- journey begins.
abbrev pub IsAfter : Setup → Option News → News → Type 0
IsAfter S None e = ⊥
IsAfter S (Some before) e = IsCrossing S before e

abbrev pub IsAtStart : Setup → Option VehicleId → Option ℕ → Type 0
IsAtStart S (Some v) (Some l) = BeginsOn S l v
IsAtStart S _ _ = ⊥

abbrev pub MayJoin : Setup → Option News → News → Word → Type 0
MayJoin S before e word.EnteredLink = IsAfter S before e
MayJoin S before e word.VehicleEntersTraffic = IsAtStart S e.what.vehicle e.what.link
MayJoin S before e _ = Unit {0}

-- the same of each of these events, which follow that one
abbrev pub MayAllJoin : Setup → Option News → List News → Type 0
MayAllJoin S before [] = Unit {0}
MayAllJoin S before (e ∷ es) = MayJoin S before e e.what.word × MayAllJoin S (Some e) es

-- in the whole day a vehicle joins a link from one that ends where this one begins, or where its journey begins
abbrev pub IsContinuous : Setup → Type 0
IsContinuous S = MayAllJoin S None (news (day S))

-- CONSERVATION
-- the events of the first t seconds of the day
abbrev pub emitted_before : Setup → ℕ → List News
emitted_before S t = news (events_from S (world_start S) t)

abbrev pub is_vehicle : VehicleId → Option VehicleId → Bool
is_vehicle v None = false
is_vehicle v (Some u) = same_vehicle u v

-- a vehicle sets out: its driver enters his car, or its transit driver starts
abbrev pub is_setting_out : VehicleId → Word → Bool
is_setting_out (vehicle.Car i) word.PersonEntersVehicle = true
is_setting_out (vehicle.Transit d) word.TransitDriverStarts = true
is_setting_out _ _ = false

abbrev pub sets_out : VehicleId → News → Bool
sets_out v e = is_setting_out v e.what.word && is_vehicle v e.what.vehicle

-- its journey ends: it arrives at the end of its route, or it is removed
abbrev pub is_ending : Word → Bool
is_ending word.VehicleLeavesTraffic = true
is_ending word.VehicleAborts = true
is_ending _ = false

abbrev pub ends_journey : VehicleId → News → Bool
ends_journey v e = is_ending e.what.word && is_vehicle v e.what.vehicle

-- it joins a link: it enters traffic there, or it enters the link over a node
abbrev pub is_joining : Word → Bool
is_joining word.VehicleEntersTraffic = true
is_joining word.EnteredLink = true
is_joining _ = false

abbrev pub joins_link : VehicleId → ℕ → News → Bool
joins_link v l e = is_joining e.what.word && (is_vehicle v e.what.vehicle && names l e.what.link)

-- it leaves a link: over a node, because its route ends there, or because it is removed there
abbrev pub is_leaving : Word → Bool
is_leaving word.LeftLink = true
is_leaving word.VehicleLeavesTraffic = true
is_leaving word.VehicleAborts = true
is_leaving _ = false

abbrev pub leaves_link : VehicleId → ℕ → News → Bool
leaves_link v l e = is_leaving e.what.word && (is_vehicle v e.what.vehicle && names l e.what.link)

-- it has entered traffic, and is on this link
abbrev pub drives_on : VehicleId → ℕ → Row → Bool
drives_on v l r = r.vehicle.started && (same_vehicle r.vehicle.id v && (r.link == l))

-- After t seconds of the day a vehicle has set out as often as it is under way, has arrived and was removed; it is under way in at most one
-- place; and it has joined each link as often as it drives there and has left it.
pub record IsConserved (S : Setup) (t : ℕ) (v : VehicleId) : Type 0 where
  pub journeys : count_by (sets_out v) (emitted_before S t) ≡ length (rows_of v (world_at S t).rows) + count_by (ends_journey v) (emitted_before S t)
  pub once : length (rows_of v (world_at S t).rows) ≤ 1
  pub links : (l : ℕ) → count_by (joins_link v l) (emitted_before S t) ≡ count_by (drives_on v l) (world_at S t).rows + count_by (leaves_link v l) (emitted_before S t)

-- ACTIVITIES
abbrev pub begins_activity : Word → Bool
begins_activity word.ActStart = true
begins_activity _ = false

abbrev pub ends_activity : Word → Bool
ends_activity word.ActEnd = true
ends_activity _ = false

-- the beginnings and the ends of the activities of person i
abbrev pub activities : ℕ → List News → List News
activities i es = filter (λ (e : News). (begins_activity e.what.word || ends_activity e.what.word) && names i e.what.person) es

abbrev pub begun : List News → ℕ
begun es = count_by (λ (e : News). begins_activity e.what.word) es

-- activity k of a person's plan
abbrev pub activity : Setup → ℕ → ℕ → Act
activity S i k = get_or (person_plan S i).acts k (record { kind = 0; link = 0; end = None })

-- What follows while a person is at an activity with this planned end: the activity ends in that second; or nothing follows, because the day
-- is over by then, or because no end is planned.
abbrev pub EndsAt : Setup → Option ℕ → List News → Type 0
EndsAt S None es = es ≡ []
EndsAt S (Some u) [] = S.settings.end_second ≤ u
EndsAt S (Some u) (e ∷ es) = (e.what.word ≡ word.ActEnd) × (e.second ≡ u) × (u < S.settings.end_second)

-- The activities of person i end as planned: the first one in the second that the plan gives; each later one in the second that the plan
-- gives, but not before the second after it began.
pub record EndAsPlanned (S : Setup) (i : ℕ) : Type 0 where
  pub first : EndsAt S (activity S i 0).end (activities i (news (day S)))
  pub later : (before after : List News) (e : News) → activities i (news (day S)) ≡ before ++ e ∷ after → e.what.word ≡ word.ActStart
      → EndsAt S (ends_at (activity S i (begun before + 1)).end e.second) after

-- STOPS
-- a transit vehicle arrives at a stop, or departs from it
abbrev pub arrives_at_stop : Word → Bool
arrives_at_stop word.VehicleArrivesAtFacility = true
arrives_at_stop _ = false

abbrev pub departs_from_stop : Word → Bool
departs_from_stop word.VehicleDepartsAtFacility = true
departs_from_stop _ = false

-- a rider alights from it, or boards it
abbrev pub alights_from : Word → Bool
alights_from word.PersonLeavesVehicle = true
alights_from _ = false

abbrev pub boards_it : Word → Bool
boards_it word.PersonEntersVehicle = true
boards_it _ = false

-- the events of the vehicle of departure d at stops, and of its riders
abbrev pub is_at_stop : ℕ → News → Bool
is_at_stop d e =
    (arrives_at_stop e.what.word || departs_from_stop e.what.word || alights_from e.what.word || boards_it e.what.word)
    && is_vehicle (vehicle.Transit d) e.what.vehicle

abbrev pub at_stops : ℕ → List News → List News
at_stops d es = filter (is_at_stop d) es

-- the call after those at which it has arrived
abbrev pub calls_made : List News → ℕ
calls_made es = count_by (λ (e : News). arrives_at_stop e.what.word) es

abbrev pub call_after : Setup → ℕ → List News → StopCall
call_after S d es = call_at (departure S d).calls (calls_made es)

-- At the end of these events the vehicle is at its next call: it arrived at the stop of the call, on the link of the call, which is link l,
-- and since then riders have only alighted and boarded. By second n its dwell time is over, for those who alighted and boarded; and if the
-- call says wait, the scheduled second has come.
pub record IsAtCall (S : Setup) (d : ℕ) (es : List News) (l n : ℕ) : Type 0 where
  pub earlier : List News
  pub came : News
  pub riders : List News
  pub split : es ≡ earlier ++ came ∷ riders
  pub arrived : came.what.word ≡ word.VehicleArrivesAtFacility
  pub next : calls_made earlier < length (departure S d).calls
  pub stop : came.what.more ≡ more.Stop (call_after S d earlier).stop
  pub link : came.what.link ≡ Some l
  pub on : (call_after S d earlier).link ≡ l
  pub only_riders : All (λ (e : News). alights_from e.what.word || boards_it e.what.word ≡ true) riders
  pub dwell : came.second + stand S.settings.dwell (count_by (λ (e : News). alights_from e.what.word) riders) (count_by (λ (e : News). boards_it e.what.word) riders) ≤ n
  pub wait : (call_after S d earlier).wait ≡ true → (departure S d).second + (call_after S d earlier).offset ≤ n

-- e is that it departs from the stop of the call at which it arrived last
pub record DepartsInTime (S : Setup) (d : ℕ) (before : List News) (e : News) : Type 0 where
  pub place : ℕ
  pub link : e.what.link ≡ Some place
  pub call : IsAtCall S d before place e.second
  pub stop : e.what.more ≡ call.came.what.more

-- whenever the vehicle of departure d departs from a stop, it is at a call, its dwell time is over, and it has waited if the call says so
pub record WaitsAtStops (S : Setup) (d : ℕ) : Type 0 where
  pub each : (before after : List News) (e : News) → at_stops d (news (day S)) ≡ before ++ e ∷ after → e.what.word ≡ word.VehicleDepartsAtFacility
      → DepartsInTime S d before e

-- ALL LAWS
-- the day of a setup keeps all laws of journeys
pub record KeepsJourneys (S : Setup) : Type 0 where
  pub seats : (t : ℕ) → KeepsSeats S t
  pub queues : (l t n : ℕ) → IsFirstInFirstOut S l t n
  pub free_flow : KeepsFreeFlow S
  pub continuity : IsContinuous S
  pub conservation : (t : ℕ) (v : VehicleId) → IsConserved S t v
  pub activities : (i : ℕ) → i < length S.persons → EndAsPlanned S i
  pub buses : (d : ℕ) → WaitsAtStops S d
