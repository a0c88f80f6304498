-- No vehicle stands in two rows.
use Rattle.traffic.proofs.Common.{◌≡◌, ℕ, List, length, ap, refl, [], ◌∷◌, arith, ◌+◌, inl, inr, ◌≤◌, eqb, eqb-true, cases_lt, recursion_from_All, sum_by-cons}
use Rattle.traffic.proofs.Common.{if◌then◌else◌, ◌==◌, VehicleId, world_at, World, Setup, listed, listed_in, rows_of, IsOwn, HasRiders, IsSoundRow, nat_tests}
use Rattle.traffic.{proofs.Common.true, specs.declared.riders.Rider.Rider, specs.declared.world.Row.Row}
use Rattle.std.specs.List.{AllByRecursion as Each}
use Rattle.events.specs.declared.event.VehicleId.TheVariants as vehicle
use Rattle.law_one_place.proofs.{Places.among_riders, Places.rides, Places.listed_once, Turns.always_kept}
use Rattle.law_one_place.proofs.Vehicles.{is_its, rows_it_has, rows_are, transit_once}
use Rattle.law_sound_setups.{proofs.Laws.day_sound, specs.Setups.IsSoundSetup}

-- a car lists its driver
driver_rides : (i : ℕ) (rs : List Rider) → length rs ≡ 1 → Each (λ (x : Rider). x.person ≡ i) rs → 1 ≤ among_riders i rs
driver_rides i [] e h = absurd (omega arith)
driver_rides i (x ∷ xs) e h = grind (arith, nat_tests, sum_by-cons (λ (y : Rider). if y.person == i then 1 else 0) x xs, h.0)

-- so it has no more rows than list him, and none where he is not there
car_few : (S : Setup) (W : World) (i : ℕ) (r : Row) (id : VehicleId) → r.vehicle.id ≡ id → IsOwn S r.vehicle id → HasRiders S W r.vehicle id → (is_its (vehicle.Car i) r.vehicle ≤ rides i r.vehicle) × (length S.persons ≤ i → is_its (vehicle.Car i) r.vehicle ≡ 0)
car_few S W i r (vehicle.Car j) e own riders =
    let one : is_its (vehicle.Car i) r.vehicle ≡ (if eqb j i then 1 else 0) = rw e refl in
    let some = driver_rides j r.vehicle.riders riders.0 (recursion_from_All (λ (x : Rider). x.person ≡ j) r.vehicle.riders riders.1) in
    let his : eqb j i ≡ true → rides j r.vehicle ≡ rides i r.vehicle = λ q. ap (λ (k : ℕ). rides k r.vehicle) (eqb-true j i q) in
    (grind (arith, his), λ past. grind (arith, nat_tests, own.there))
car_few S W i r (vehicle.Transit d) e own riders = let none : is_its (vehicle.Car i) r.vehicle ≡ 0 = rw e refl in (omega arith, λ past. none)

cars_few : (S : Setup) (W : World) (i : ℕ) (rows : List Row) → Each (IsSoundRow S W) rows → (rows_it_has (vehicle.Car i) rows ≤ listed i rows) × (length S.persons ≤ i → rows_it_has (vehicle.Car i) rows ≡ 0)
cars_few S W i [] h = (omega arith, λ past. refl)
cars_few S W i (r ∷ rs) h =
    let a = sum_by-cons (λ (x : Row). is_its (vehicle.Car i) x.vehicle) r rs in
    let b : listed i (r ∷ rs) ≡ rides i r.vehicle + listed i rs = sum_by-cons (listed_in i) r rs in
    let c = car_few S W i r r.vehicle.id refl h.0.own h.0.riders in
    let d = cars_few S W i rs h.1 in
    (omega arith, λ past. (let x = c.1 past in let y = d.1 past in omega arith))

pub vehicle_once : (S : Setup) (t : ℕ) (v : VehicleId) → IsSoundSetup S → length (rows_of v (world_at S t).rows) ≤ 1
vehicle_once S t (vehicle.Car i) f =
    let W = world_at S t in
    let sound = day_sound S t f in
    let c = cars_few S W i W.rows (recursion_from_All (IsSoundRow S W) W.rows sound.rows) in
    let a = rows_are (vehicle.Car i) W.rows in
    elim (cases_lt i (length S.persons)) [
      | inl lt ↦ let b = listed_once i W.rows _ ((always_kept S t).one_place i lt) in omega arith
      | inr past ↦ let z = c.1 past in omega arith
    ]
vehicle_once S t (vehicle.Transit d) f = transit_once S t d
