-- A vehicle, wherever it stands.
use Rattle.std.specs.Prelude.{◌<◌, ◌≤◌, ℕ, Bool, List, length}
use Rattle.events.specs.declared.{event.VehicleId.VehicleId, lists.StopCall.StopCall}
use Rattle.traffic.specs.declared.riders.Rider.{Rider}

-- the car of a person, or the vehicle of a departure
pub record VehicleState : Type 0 where
  pub id : VehicleId
  -- the links that it drives along, and the place of its link among them
  pub route : List ℕ
  pub place : ℕ
  -- it has entered traffic
  pub started : Bool
  -- in the order in which they boarded
  pub riders : List Rider
  -- the line; a car has 0, no calls, and 0 for the next three
  pub line : ℕ
  pub calls : List StopCall
  -- how many of the calls it has served
  pub served : ℕ
  -- the second of its departure
  pub departed : ℕ
  -- how many may ride
  pub seats : ℕ
  -- it was pushed into its queue past the storage
  pub pushed : Bool

-- its place is one of its route, and it has served no more calls than it has
abbrev pub IsVehicle : VehicleState → Type 0
IsVehicle v = (v.place < length v.route) × (v.served ≤ length v.calls)
