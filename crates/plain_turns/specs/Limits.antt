-- The sizes of the numbers of a town and of a world, within which sums fit.
use Rattle.std.specs.Prelude.{◌≤◌, List, [], ◌∷◌, length}
use Rattle.limits.specs.declared.TheConstants.{LAST_SECOND, MAX_PERSONS, MAX_SEATS, MAX_CALLS}
use Rattle.traffic.specs.{Stops.next_call, Vehicles.VehicleState, declared.world.Row.Row}

-- a vehicle has at most so many riders, seats and calls, and seconds within two days
pub record IsSmall (v : VehicleState) : Type 0 where
  pub riders : length v.riders ≤ MAX_PERSONS
  pub seats : v.seats ≤ MAX_SEATS
  pub departed : v.departed ≤ LAST_SECOND
  pub offset : (next_call v).offset ≤ LAST_SECOND
  pub calls : length v.calls ≤ MAX_CALLS

abbrev pub AreSmall : List Row → Type 0
AreSmall [] = Unit {0}
AreSmall (r ∷ rs) = IsSmall r.vehicle × AreSmall rs
