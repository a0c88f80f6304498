-- What holds of each vehicle and each person of a day in every second.
use Rattle.std.specs.Prelude.{◌≡◌, ◌<◌, ◌≤◌, ℕ, ◌/◌, length, All, None, Some}
use Rattle.limits.specs.declared.TheConstants.{LAST_SECOND, MAX_CALLS, MAX_ROUTE_LINKS, MAX_SEATS, MAX_PERSONS}
use Rattle.events.specs.declared.{event.VehicleId.VehicleId, lists.StopCall.StopCall}
use Rattle.events.specs.declared.event.VehicleId.TheVariants as vehicle
use Rattle.traffic.specs.{Rows.World, Rows.person_of, Vehicles.VehicleState, Worlds.IsSoundStage, declared.riders.Rider.Rider}
use Rattle.traffic.specs.declared.world.{Hole.Hole, Person.Person, Place.Place, Place.TheVariants.At, Place.TheVariants.Teleporting, Place.TheVariants.Waiting}
use Rattle.traffic.specs.declared.world.{Place.TheVariants.Riding, Place.TheVariants.Aborted, Row.Row}

-- how many there are of all that a day tells of, and how many legs the plan of each person has
pub record Counts : Type 0 where
  pub persons : ℕ
  pub links : ℕ
  pub kinds : ℕ
  pub stops : ℕ
  pub lines : ℕ
  pub departures : ℕ
  pub legs : ℕ → ℕ

-- the car of a person or the vehicle of a departure that is there
abbrev pub IsFitId : Counts → VehicleId → Type 0
IsFitId z (vehicle.Car i) = i < z.persons
IsFitId z (vehicle.Transit d) = d < z.departures

-- a transit vehicle has a line that is there
abbrev pub IsFitLine : Counts → VehicleId → ℕ → Type 0
IsFitLine z (vehicle.Car i) line = Unit {0}
IsFitLine z (vehicle.Transit d) line = line < z.lines

-- a link that is there
abbrev pub IsFitLink : Counts → ℕ → Type 0
IsFitLink z l = l < z.links

-- a person that is there, on the way to an activity of a kind that is there
pub record IsFitRider (z : Counts) (r : Rider) : Type 0 where
  pub person : r.person < z.persons
  pub kind : r.kind < z.kinds

-- a call at a stop that is there, within two days of the departure
pub record IsFitCall (z : Counts) (c : StopCall) : Type 0 where
  pub stop : c.stop < z.stops
  pub offset : c.offset ≤ LAST_SECOND

-- all that a vehicle names is there, and its lists and numbers are within the limits
pub record IsFitVehicle (z : Counts) (v : VehicleState) : Type 0 where
  pub id : IsFitId z v.id
  pub line : IsFitLine z v.id v.line
  pub route : All (IsFitLink z) v.route
  pub few_links : length v.route ≤ MAX_ROUTE_LINKS
  pub place : v.place < length v.route
  pub riders : All (IsFitRider z) v.riders
  pub few_riders : length v.riders ≤ MAX_PERSONS
  pub calls : All (IsFitCall z) v.calls
  pub few_calls : length v.calls ≤ MAX_CALLS
  pub served : v.served ≤ length v.calls
  pub seats : v.seats ≤ MAX_SEATS
  pub departed : v.departed ≤ LAST_SECOND

-- a row's vehicle is fit and stands on a link that is there; in a buffer it has a next link, and in a bay it has served a stop
pub record IsFitRow (z : Counts) (r : Row) : Type 0 where
  pub vehicle : IsFitVehicle z r.vehicle
  pub link : r.link < z.links
  pub stage : IsSoundStage r.stage r.vehicle

-- where an activity ends the plan has a leg after it, and who waits does so at a stop that is there
abbrev pub IsFitPlace : Counts → ℕ → ℕ → Place → Type 0
IsFitPlace z i element (At None) = Unit {0}
IsFitPlace z i element (At (Some end)) = element / 2 < z.legs i
IsFitPlace z i element (Teleporting start) = Unit {0}
IsFitPlace z i element (Waiting stop since) = stop < z.stops
IsFitPlace z i element (Riding v) = Unit {0}
IsFitPlace z i element (Aborted l) = Unit {0}

-- the same of a person's row
abbrev pub IsFitPerson : Counts → ℕ → Person → Type 0
IsFitPerson z i P = IsFitPlace z i P.element P.place

-- all rows, persons and holes are fit, with a row for each person and a credit for each link
pub record IsFitWorld (z : Counts) (W : World) : Type 0 where
  pub rows : All (IsFitRow z) W.rows
  pub persons : (i : ℕ) → IsFitPerson z i (person_of i W)
  pub one_each : length W.persons ≡ z.persons
  pub credits : length W.credits ≡ z.links
  pub holes : All (λ (h : Hole). h.link < z.links) W.holes
