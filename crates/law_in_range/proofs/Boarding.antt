-- A row that gets another second, and a vehicle that drives on or is served at a stop, stay fit.
use Rattle.traffic.proofs.Common.{ℕ, List, length, arith, ◌<◌, ◌+◌, true, Bool, ◌≤◌, ◌-◌, length-map, All-append, All-from_recursion, All-filter, map, filter}
use Rattle.traffic.proofs.Common.{not, All, Dwelling, at_second, served_row, next_call, rider, staying, served_vehicle, boarding, in_turn, riders_after}
use Rattle.traffic.proofs.{Common.alights, Common.may_board, Common.VehicleState, Each.each_map, Each.each_boarding}
use Rattle.traffic.specs.declared.{riders.Rider.Rider, world.Row.Row, world.Waiter.Waiter}
use Rattle.std.proofs.lemmas.List.{length-append, length-take, Sums.length-filter, Sums.count_by-le-length}
use Rattle.std.specs.List.{AllByRecursion as Each}
use Rattle.limits.specs.declared.TheConstants.{MAX_PERSONS}
use Rattle.law_in_range.specs.Rows.{Counts, IsFitRider, IsFitVehicle, IsFitRow}

-- who waits is a person that is there, on the way to an activity of a kind that is there
pub record IsFitWaiter (z : Counts) (w : Waiter) : Type 0 where
  pub person : w.person < z.persons
  pub kind : w.kind < z.kinds

changed : (z : Counts) (v : VehicleState) (place : ℕ) (started pushed : Bool) (riders : List Rider) (served : ℕ) → IsFitVehicle z v → place < length v.route → All (IsFitRider z) riders → length riders ≤ MAX_PERSONS → served ≤ length v.calls →
    IsFitVehicle z (record v { place = place; started = started; pushed = pushed; riders = riders; served = served })
changed z v place started pushed riders served h lt fit few most =
    record {
      id = h.id;
      line = h.line;
      route = h.route;
      few_links = h.few_links;
      place = lt;
      riders = fit;
      few_riders = few;
      calls = h.calls;
      few_calls = h.few_calls;
      served = most;
      seats = h.seats;
      departed = h.departed;
    }

pub driven : (z : Counts) (v : VehicleState) (place : ℕ) (started pushed : Bool) → IsFitVehicle z v → place < length v.route → IsFitVehicle z (record v { place = place; started = started; pushed = pushed })
driven z v place started pushed h lt = changed z v place started pushed v.riders v.served h lt h.riders h.few_riders h.served

pub second_fit : (z : Counts) (t : ℕ) (r : Row) → IsFitRow z r → IsFitRow z (at_second t r)
second_fit z t r h = record { vehicle = h.vehicle; link = h.link; stage = h.stage }

few_boarding : (v : VehicleState) (ws : List Waiter) → length (boarding v ws) ≤ v.seats - length (staying (next_call v).stop v.riders)
unfolding boarding
few_boarding v ws =
    let free = v.seats - length (staying (next_call v).stop v.riders) in
    omega (arith, length-take free (in_turn (filter (may_board v) ws)))

pub riders_fit : (z : Counts) (v : VehicleState) (ws : List Waiter) →
    IsFitVehicle z v → Each (IsFitWaiter z) ws → All (IsFitRider z) (served_vehicle v ws).riders
unfolding served_vehicle riders_after
riders_fit z v ws h g =
    let board = each_map (IsFitWaiter z) (IsFitRider z) rider (λ w k. record { person = k.person; kind = k.kind }) (boarding v ws) (each_boarding (IsFitWaiter z) (IsFitWaiter z) v (λ w q k. k) ws g) in
    All-append (IsFitRider z) (staying (next_call v).stop v.riders) (map rider (boarding v ws)) (All-filter _ (IsFitRider z) v.riders h.riders)
    (All-from_recursion (IsFitRider z) (map rider (boarding v ws)) board)

few_riders : (z : Counts) (v : VehicleState) (ws : List Waiter) → IsFitVehicle z v → length (riders_after v ws) ≤ MAX_PERSONS
unfolding riders_after
few_riders z v ws h =
    let stay = staying (next_call v).stop v.riders in
    let a = length-append stay (map rider (boarding v ws)) in
    omega (
      arith,
      length-filter (λ r. not (alights (next_call v).stop r)) v.riders,
      count_by-le-length (λ r. not (alights (next_call v).stop r)) v.riders,
      few_boarding v ws,
      length-map (boarding v ws) rider,
    )

served_fit : (z : Counts) (v : VehicleState) (ws : List Waiter) → IsFitVehicle z v → Each (IsFitWaiter z) ws → v.served < length v.calls → IsFitVehicle z (served_vehicle v ws)
unfolding served_vehicle
served_fit z v ws h g lt = changed z v v.place true v.pushed (riders_after v ws) (v.served + 1) h h.place (riders_fit z v ws h g) (few_riders z v ws h) (omega arith)

pub served_row_fit : (z : Counts) (D : Dwelling) (t l : ℕ) (ws : List Waiter) (v : VehicleState) → IsFitVehicle z v → l < z.links → Each (IsFitWaiter z) ws → v.served < length v.calls → IsFitRow z (served_row D t l ws v)
unfolding served_vehicle
served_row_fit z D t l ws v h lt g some = record { vehicle = served_fit z v ws h g some; link = lt; stage = omega arith }
