-- What fit rows tell is fit.
use Rattle.traffic.proofs.Common.{ℕ, List, length, [], ◌∷◌, arith, ◌<◌, true, ◌++◌, Bool, ◌≤◌, false, ◌-◌, All-get_or, recursion_from_All, All-filter, flat_map}
use Rattle.traffic.proofs.Common.{if◌then◌else◌, All, VehicleId, call_at, next_call, alighting, staying, alights, boarded, arrives, enters, leaves, starts}
use Rattle.traffic.proofs.Common.{serves, strands, driver, aborts, VehicleState}
use Rattle.traffic.specs.{Telling.goes_on, Telling.changes_links, declared.moves.Occurrence.Occurrence, declared.riders.Rider.Rider, declared.world.Row.Row}
use Rattle.std.{proofs.lemmas.List.Elements.All-drop, specs.List.AllByRecursion as Each}
use Rattle.events.specs.declared.event.VehicleId.TheVariants as vehicle
use Rattle.law_in_range.specs.Rows.{Counts, IsFitId, IsFitRider, IsFitCall, IsFitVehicle, IsFitRow}
use Rattle.law_in_range.specs.Moves.{IsBelow, AreFitOccurrences}

pub said_append : (z : Counts) (xs ys : List Occurrence) → AreFitOccurrences z xs → AreFitOccurrences z ys → AreFitOccurrences z (xs ++ ys)
said_append z [] ys h g = g
said_append z (x ∷ xs) ys h g = (h.0, said_append z xs ys h.1 g)

pub said_if : (z : Counts) (b : Bool) (xs ys : List Occurrence) → AreFitOccurrences z xs → AreFitOccurrences z ys → AreFitOccurrences z (if b then xs else ys)
said_if z b xs ys h g = elim b as (λ c. AreFitOccurrences z (if c then xs else ys)) [ true ↦ h | false ↦ g ]

said_riders : (z : Counts) (f : Rider → List Occurrence) → ((r : Rider) → IsFitRider z r → AreFitOccurrences z (f r)) → (rs : List Rider) → Each (IsFitRider z) rs → AreFitOccurrences z (flat_map f rs)
said_riders z f g [] h = tt
said_riders z f g (r ∷ rs) h = said_append z (f r) (flat_map f rs) (g r h.0) (said_riders z f g rs h.1)

driver_below : (z : Counts) (v : VehicleId) → IsFitId z v → IsBelow z.persons (driver v)
driver_below z (vehicle.Car i) h = h
driver_below z (vehicle.Transit d) h = tt

leaves_fit : (z : Counts) (v : VehicleId) (l : ℕ) → IsFitId z v → l < z.links → (r : Rider) → IsFitRider z r → AreFitOccurrences z (leaves v l r)
leaves_fit z v l id lt r h = assumption (id, lt, h, tt)

riders_each : (z : Counts) (v : VehicleState) → IsFitVehicle z v → Each (IsFitRider z) v.riders
riders_each z v h = recursion_from_All (IsFitRider z) v.riders h.riders

pub starts_fit : (z : Counts) (r : Row) → IsFitRow z r → AreFitOccurrences z (starts r)
starts_fit z r h =
    said_if z r.vehicle.started [] _ tt (record { person = driver_below z r.vehicle.id h.vehicle.id; vehicle = h.vehicle.id; link = h.link; more = tt }, tt)

pub arrives_fit : (z : Counts) (r : Row) → IsFitRow z r → AreFitOccurrences z (arrives r)
arrives_fit z r h = (
  record { person = driver_below z r.vehicle.id h.vehicle.id; vehicle = h.vehicle.id; link = h.link; more = tt },
  said_riders z (leaves r.vehicle.id r.link) (leaves_fit z r.vehicle.id r.link h.vehicle.id h.link) r.vehicle.riders (riders_each z r.vehicle h.vehicle),
)

pub aborts_fit : (z : Counts) (r : Row) → IsFitRow z r → AreFitOccurrences z (aborts r)
aborts_fit z r h = (
  record { person = tt; vehicle = h.vehicle.id; link = h.link; more = tt },
  said_riders z (strands r.vehicle.id r.link) (λ x k. assumption (k, h.link, tt)) r.vehicle.riders (riders_each z r.vehicle h.vehicle),
)

pub call_fit : (z : Counts) (v : VehicleState) (k : ℕ) → IsFitVehicle z v → k < length v.calls → IsFitCall z (call_at v.calls k)
call_fit z v k h lt = All-get_or (IsFitCall z) v.calls k _ lt h.calls

pub goes_on_fit : (z : Counts) (r : Row) → IsFitRow z r → 1 ≤ r.vehicle.served → AreFitOccurrences z (goes_on r)
goes_on_fit z r h some =
    let within : r.vehicle.served - 1 < length r.vehicle.calls = (let most = h.vehicle.served in omega arith) in
    (record { person = tt; vehicle = h.vehicle.id; link = h.link; more = (call_fit z r.vehicle (r.vehicle.served - 1) h.vehicle within).stop }, tt)

pub serves_fit : (z : Counts) (was now : Row) → IsFitRow z was → All (IsFitRider z) now.vehicle.riders → was.vehicle.served < length was.vehicle.calls → AreFitOccurrences z (serves was now)
serves_fit z was now h riders lt =
    let stop = (next_call was.vehicle).stop in
    let id = was.vehicle.id in
    let leave = All-filter (alights stop) (IsFitRider z) was.vehicle.riders h.vehicle.riders in
    let board = All-drop (IsFitRider z) (length (staying stop was.vehicle.riders)) now.vehicle.riders riders in (
      record { person = tt; vehicle = h.vehicle.id; link = h.link; more = (call_fit z was.vehicle was.vehicle.served h.vehicle lt).stop },
      said_append z (flat_map (leaves id was.link) (alighting stop was.vehicle.riders)) (flat_map (enters id) (boarded stop was.vehicle.riders now.vehicle.riders))
          (said_riders z (leaves id was.link) (leaves_fit z id was.link h.vehicle.id h.link) (alighting stop was.vehicle.riders) (recursion_from_All (IsFitRider z) (alighting stop was.vehicle.riders) leave))
          (said_riders z (enters id) (λ r k. assumption (k, h.vehicle.id, tt)) (boarded stop was.vehicle.riders now.vehicle.riders)
          (recursion_from_All (IsFitRider z) _ board)),
    )

pub changes_fit : (z : Counts) (was now : Row) → IsFitRow z was → IsFitRow z now → AreFitOccurrences z (changes_links was now)
changes_fit z was now h g =
    (record { person = tt; vehicle = h.vehicle.id; link = h.link; more = tt }, (record { person = tt; vehicle = g.vehicle.id; link = g.link; more = tt }, tt))
