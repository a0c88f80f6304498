-- The parcels that a partition fills are those of the day.
use Rattle.traffic.proofs.Common.{◌≡◌, ◌≢◌, ℕ, ◌+◌, ◌<◌, List, [], ◌∷◌, ◌++◌, ◌∙◌, ap, refl, sym, inl, inr, cases_Bool, Bool, true, false, recursion_from_All}
use Rattle.traffic.proofs.Common.{length, map, filter, flat_map, eqb, eqb-true, eqb-false, if◌then◌else◌, ◌==◌, ne_eqb, Some, subst, Setup, World, person_of}
use Rattle.traffic.{proofs.Common.below, specs.Setup.act_after, specs.Setup.leg_at, specs.declared.riders.Rider.Rider, specs.declared.world.Place.Place}
use Rattle.traffic.specs.declared.world.Place.TheVariants.{At, Teleporting, Waiting, Riding, Aborted}
use Rattle.traffic.specs.declared.world.Row.{Row}
use Rattle.std.specs.List.{AllByRecursion as Each}
use Rattle.node_move.specs.declared.crossings.Entering.{Entering}
use Rattle.node_seconds.specs.Networks.{is_among}
use Rattle.part_nodes.specs.Phase.{entering_of}
use Rattle.parts.specs.Owners.{Owner, owner_of, begins_in}
use Rattle.parts.specs.Parts.{Parcel as Sent, Passed, Flight, Freed, passed, entering_row, flight_at, seconds_of_way, out}
use Rattle.law_own_seconds.specs.Seconds.{world_driven}
use Rattle.law_own_worlds.specs.{Days.world_before, OwnWorlds.set_out}
use Rattle.law_partitions.{proofs.Rebuilt.rebuilt, specs.Alone.flight_to}
use Rattle.law_parcels.specs.Sending.{sent_rows, goes_to, freed_over, SendsParcels}
use Rattle.step_core.specs.{Nets.border_at, declared.part.Border.Border}
use Rattle.part_seconds.proofs.Places.{place_is}
use Rattle.part_seconds.specs.{Contents.passed_of, Contents.flight_of, Contents.freed_row, Contents.parcel_of, Leaving.AreOthers, Sending.is_at}
use Rattle.part_seconds.specs.Sending.{moved_of, vehicle_place, other_than, teleports_to, place_if, teleported_place, teleported_of, freed_place, parcel_for}
use Rattle.part_seconds.specs.declared.contents.FreedPlaces.{FreedPlaces}

-- VEHICLES
module _ (S : Setup) (t : ℕ) (W : World) (goes : Entering → Bool) (g : Row → Bool) (same : (r : Row) → goes (entering_of r) ≡ g r) where
  abbrev Row_is : Passed → Type 0
  Row_is x = x.row ≡ entering_row S t x.row.vehicle

  one_passed : (r : Row) → r ≡ entering_row S t r.vehicle → passed_of S t (moved_of W.persons (entering_of r)) ≡ passed W r
  one_passed r e =
      let es = map (λ (y : Rider). (person_of y.person W).element) r.vehicle.riders in
      ap (λ (x : Row). let y : Passed = record { row = x; elements = es } in y)
      (sym e)

  pub vehicles_are : (rows : List Row) → Each Row_is (map (passed W) (filter g rows))
      → map (passed_of S t) (map (moved_of W.persons) (filter goes (map entering_of rows))) ≡ map (passed W) (filter g rows)
  vehicles_are [] h = refl
  vehicles_are (r ∷ rs) h =
      elim (cases_Bool (g r)) [
        | inl e ↦
            let f : goes (entering_of r) ≡ true = same r ∙ e in
            let k : Each Row_is (passed W r ∷ map (passed W) (filter g rs)) = rw e at h in
            rw (e, f) (
            ap (λ (y : Passed). y ∷ map (passed_of S t) (map (moved_of W.persons) (filter goes (map entering_of rs)))) (one_passed r k.0)
            ∙ ap (λ (ys : List Passed). passed W r ∷ ys) (vehicles_are rs k.1)
            )
        | inr e ↦
            let f : goes (entering_of r) ≡ false = same r ∙ e in
            let k : Each Row_is (map (passed W) (filter g rs)) = rw e at h in
            rw (e, f) (vehicles_are rs k)
      ]

-- A PARCEL is what its lists are
subst_each : (S : Setup) (t : ℕ) (xs ys : List Passed) → xs ≡ ys → Each (λ (x : Passed). x.row ≡ entering_row S t x.row.vehicle) xs
    → Each (λ (x : Passed). x.row ≡ entering_row S t x.row.vehicle) ys
subst_each S t xs ys e h = subst (Each (λ (x : Passed). x.row ≡ entering_row S t x.row.vehicle)) e h

all_three : (vs : List Passed) (fs : List Flight) (gs : List Freed) (x y : Sent) → y.vehicles ≡ vs → y.flights ≡ fs → y.freed ≡ gs
    → vs ≡ x.vehicles → fs ≡ x.flights → gs ≡ x.freed → y ≡ x
all_three vs fs gs x y i j k a b c =
    ap (λ (v : List Passed). let z : Sent = record { vehicles = v; flights = y.flights; freed = y.freed } in z) (i ∙ a)
    ∙ ap (λ (f : List Flight). let z : Sent = record { vehicles = x.vehicles; flights = f; freed = y.freed } in z) (j ∙ b)
    ∙ ap (λ (g : List Freed). let z : Sent = record { vehicles = x.vehicles; flights = x.flights; freed = g } in z) (k ∙ c)

-- FLIGHTS
abbrev no_flights : List Flight
no_flights = []

no_way : (b : Bool) → (if b then no_flights else no_flights) ≡ no_flights
no_way true = refl
no_way false = refl

abbrev one_flying : Setup → ℕ → ℕ → ℕ → Flight
one_flying S t i element = record { person = i; element = element; due = t + seconds_of_way (leg_at S i element) }

module _ (S : Setup) (own : Owner) (p t k : ℕ) (borders : List Border) (others : AreOthers p borders) (lt : k < length borders) where
  abbrev q : ℕ
  q = (border_at borders k).neighbour

  at_other : (d : ℕ) → is_at k (place_if borders (other_than p d)) ≡ (d == q)
  at_other d =
      elim (cases_Bool (eqb d p)) [
        | inl e ↦
            let same : d ≡ p = eqb-true d p e in
            let off : (q == p) ≡ false = others.each k lt in
            let ne : q ≢ p = eqb-false q p off in
            rw e (sym (ne_eqb d q (λ w. ne (sym w ∙ same))))
        | inr e ↦ rw e (place_is p borders k d others lt)
      ]

  one_flight : (i element : ℕ) (pl : Place)
      → (if is_at k (place_if borders (teleports_to S own p t i element pl)) then one_flying S t i element ∷ [] else [])
      ≡ (if owner_of S own (act_after S i element).link == q then flight_at S t i element pl else [])
  one_flight i element (Teleporting start) =
      let d = owner_of S own (act_after S i element).link in
      elim (cases_Bool (eqb start t)) [
        | inl e ↦
            let same : start ≡ t = eqb-true start t e in
            rw e (
            ap (λ (b : Bool). if b then one_flying S t i element ∷ [] else []) (at_other d)
            ∙ ap (λ (n : ℕ). if d == q then one_flying S n i element ∷ [] else []) (sym same)
            )
        | inr e ↦ rw e (sym (no_way (d == q)))
      ]
  one_flight i element (At end) = sym (no_way (owner_of S own (act_after S i element).link == q))
  one_flight i element (Waiting stop since) = sym (no_way (owner_of S own (act_after S i element).link == q))
  one_flight i element (Riding v) = sym (no_way (owner_of S own (act_after S i element).link == q))
  one_flight i element (Aborted l) = sym (no_way (owner_of S own (act_after S i element).link == q))

  pub flights_are : (W : World) (ns : List ℕ)
      → map (flight_of S t) (map (teleported_of W.persons) (filter (λ i. is_at k (teleported_place S own p borders t W.persons i)) ns))
      ≡ flat_map (λ i. flight_to S own q t i (Some (person_of i W))) ns
  flights_are W [] = refl
  flights_are W (i ∷ ns) =
      let P = person_of i W in
      let goes : ℕ → Bool = λ i. is_at k (teleported_place S own p borders t W.persons i) in
      let rest : List Flight = map (flight_of S t) (map (teleported_of W.persons) (filter goes ns)) in
      let one : (if goes i then one_flying S t i P.element ∷ [] else []) ≡ flight_to S own q t i (Some P)
      = one_flight i P.element P.place in
      let start : map (flight_of S t) (map (teleported_of W.persons) (filter goes (i ∷ ns)))
      ≡ (if goes i then one_flying S t i P.element ∷ [] else []) ++ rest
      = elim (cases_Bool (goes i)) [ inl e ↦ rw e refl | inr e ↦ rw e refl ] in
      start ∙ ap (λ (fs : List Flight). fs ++ rest) one
      ∙ ap (λ (fs : List Flight). flight_to S own q t i (Some P) ++ fs) (flights_are W ns)

  -- FREED PLACES
  pub freed_are : (fs : List FreedPlaces)
      → map freed_row (filter (λ f. is_at k (freed_place S own borders f)) fs)
      ≡ filter (λ (f : Freed). begins_in S own f.link == q) (map freed_row fs)
  freed_are [] = refl
  freed_are (f ∷ fs) =
      let same : is_at k (freed_place S own borders f) ≡ (begins_in S own f.link == q)
      = place_is p borders k (begins_in S own f.link) others lt in
      elim (cases_Bool (begins_in S own f.link == q)) [
        | inl e ↦
            let g : is_at k (freed_place S own borders f) ≡ true = same ∙ e in
            rw (e, g) (ap (λ (xs : List Freed). freed_row f ∷ xs) (freed_are fs))
        | inr e ↦
            let g : is_at k (freed_place S own borders f) ≡ false = same ∙ e in
            rw (e, g) (freed_are fs)
      ]

  -- ALL of it
  pub right_parcel : (es : List Entering) (ns : List ℕ) (fs : List FreedPlaces) → SendsParcels S own p t
      → es ≡ map entering_of (sent_rows S own p t) → ns ≡ filter (λ i. is_among i ns) (below (length S.persons))
      → ((i : ℕ) → is_among i ns ≡ false
      → person_of i (set_out S own p t (world_before S own p t)) ≡ person_of i (world_before S own p t))
      → map freed_row fs ≡ freed_over S own p t
      → parcel_of S t (parcel_for S own p borders t (world_driven S own p t).persons es ns fs k) ≡ out S own p q t
  right_parcel es ns fs sends rows looked same freed =
      let V = world_driven S own p t in
      let goes : Entering → Bool = λ e. is_at k (vehicle_place S own borders e) in
      let other : (q == p) ≡ false = others.each k lt in
      let whole : Each (λ (x : Passed). x.row ≡ entering_row S t x.row.vehicle) (out S own p q t).vehicles
      = recursion_from_All (λ (x : Passed). x.row ≡ entering_row S t x.row.vehicle) _ (rebuilt S own p q t) in
      let a : map (passed_of S t) (map (moved_of V.persons) (filter goes es)) ≡ (out S own p q t).vehicles
      = ap (λ (xs : List Entering). map (passed_of S t) (map (moved_of V.persons) (filter goes xs))) rows
      ∙ vehicles_are S t V goes (goes_to S own q) (λ r. place_is p borders k (owner_of S own r.link) others lt) (sent_rows S own p t)
      (subst_each S t (out S own p q t).vehicles _ (sends.vehicles q other) whole)
      ∙ sym (sends.vehicles q other) in
      let b : map (flight_of S t) (map (teleported_of V.persons) (filter (λ i. is_at k (teleported_place S own p borders t V.persons i)) ns))
      ≡ (out S own p q t).flights
      = flights_are V ns ∙ ap (flat_map (λ i. flight_to S own q t i (Some (person_of i V)))) looked
      ∙ sym (sends.flights q (λ i. is_among i ns) same) in
      let c : map freed_row (filter (λ f. is_at k (freed_place S own borders f)) fs) ≡ (out S own p q t).freed
      = freed_are fs ∙ ap (filter (λ (f : Freed). begins_in S own f.link == q)) freed ∙ sym (sends.freed_places q other) in
      all_three _ _ _ (out S own p q t) _ refl refl refl a b c
