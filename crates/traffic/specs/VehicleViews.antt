-- What contracts see of a vehicle.
use Rattle.traffic.specs.{Vehicles.VehicleState, Vehicles.IsVehicle, declared.vehicle.Vehicle.TheInside.Inside}

abbrev pub vehicle_view : Inside → VehicleState
vehicle_view v =
    record {
      id = v.id;
      route = v.route;
      place = v.place;
      started = v.started;
      riders = v.riders;
      line = v.line;
      calls = v.calls;
      served = v.served;
      departed = v.departed;
      seats = v.seats;
      pushed = v.pushed;
    }

abbrev pub vehicle_invariant : Inside → Type 0
vehicle_invariant v = IsVehicle (vehicle_view v)
