-- Who rides is on the link of his vehicle.
use Rattle.traffic.proofs.Common.{◌≡◌, ℕ, List, length, refl, [], ◌∷◌, arith, ◌<◌, inl, inr, subst, ◌≤◌, cases_Bool, lt-ltb, sum_by-cons, VehicleId, world_at}
use Rattle.traffic.proofs.Common.{same_vehicle, link_of_vehicle, person_of, Setup, listed, IsListed, listed_in, rows_of}
use Rattle.traffic.specs.declared.world.{Place.TheVariants.Riding, Row.Row}
use Rattle.std.proofs.lemmas.Bool.{le-ltb}
use Rattle.law_one_place.proofs.{Places.listed_part, Turns.always_kept}
use Rattle.law_sound_setups.{proofs.Vehicles.vehicle_once, specs.Setups.IsSoundSetup}
use Rattle.parts.specs.Owners.{link_of_rider}

no_row : (i : ℕ) (rows : List Row) → length rows ≤ 0 → listed i rows ≡ 0
no_row i [] h = refl
no_row i (r ∷ rs) h = absurd (omega arith)

-- the first row that lists him is the one row of his vehicle
same_link : (i : ℕ) (v : VehicleId) (rows : List Row) → listed i rows ≤ 1 → listed i (rows_of v rows) ≡ 1 → length (rows_of v rows) ≤ 1 → link_of_vehicle v rows ≡ link_of_rider i rows
unfolding link_of_vehicle link_of_rider
same_link i v [] few one once = absurd (omega arith)
same_link i v (r ∷ rs) few one once =
    let all = sum_by-cons (listed_in i) r rs in
    let part = listed_part v i rs in
    elim (cases_Bool (same_vehicle r.vehicle.id v)) [
      | inl e ↦
          let one2 : listed i (r ∷ rows_of v rs) ≡ 1 = simp e at one in
          let once2 : length (r ∷ rows_of v rs) ≤ 1 = simp e at once in
          let c = sum_by-cons (listed_in i) r (rows_of v rs) in
          let z = no_row i (rows_of v rs) (omega arith) in
          let his = lt-ltb 0 (listed_in i r) (omega arith) in rw (e, his) refl
      | inr e ↦
          let one2 : listed i (rows_of v rs) ≡ 1 = simp e at one in
          let once2 : length (rows_of v rs) ≤ 1 = simp e at once in
          let other = le-ltb 0 (listed_in i r) (omega arith) in
          rw (e, other) (same_link i v rs (omega arith) one2 once2)
    ]

pub rider_link : (S : Setup) (t i : ℕ) (v : VehicleId) → IsSoundSetup S → i < length S.persons → (person_of i (world_at S t)).place ≡ Riding v → link_of_vehicle v (world_at S t).rows ≡ link_of_rider i (world_at S t).rows
rider_link S t i v f lt e =
    let W = world_at S t in
    let h : IsListed i W.rows (Riding v) = subst (IsListed i W.rows) e ((always_kept S t).one_place i lt) in
    let all = h.0 in
    same_link i v W.rows (omega arith) h.1 (vehicle_once S t v f)
