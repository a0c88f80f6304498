-- Persons who come.
use Rattle.traffic.proofs.Common.{◌≡◌, ◌≢◌, ℕ, zero, suc, ◌+◌, ◌<◌, ◌≤◌, List, [], ◌∷◌, ◌++◌, ◌∙◌, ap, refl, sym, arith, inl, inr, cases_Bool, length, set}
use Rattle.traffic.proofs.Common.{take, flat_map, map, eqb, eqb-true, eqb-false, get_or-set_same, get_or-set_other, length-set, Setup, World, person_of, nobody}
use Rattle.traffic.proofs.Common.{get_or, append-nil, append_assoc, VehicleId, add-one}
use Rattle.traffic.specs.declared.{riders.Rider.Rider, world.Person.Person}
use Rattle.std.specs.Prelude.{min}
use Rattle.traffic.specs.declared.world.Place.TheVariants as place
use Rattle.parts.specs.Parts.{Passed}
use Rattle.law_partitions.specs.Alone.{riding, flying}
use Rattle.law_parcels.specs.Hearing.{last_or}
use Rattle.town.specs.declared.day_input.DayInput.{DayInput}
use Rattle.part_persons.specs.{Dues.AreFollowedIn, declared.persons.Persons.Persons}
use Rattle.part_seconds.proofs.Lists.{flat_of_map, map_of_map}
use Rattle.part_seconds.specs.Arriving.{Come, if_is, all_riding, teleporting_in, entering_by, entered}
use Rattle.part_seconds.specs.{Contents.passed_of, Contents.flight_of, declared.contents.Moved.Moved, declared.contents.Teleported.Teleported}

last_append : (P : Person) (xs ys : List Person) → last_or P (xs ++ ys) ≡ last_or (last_or P xs) ys
last_append P [] ys = refl
last_append P (x ∷ xs) ys = last_append x xs ys

pub come_next : (day : DayInput) (f g h : ℕ → List Person) (old now new : Persons) → Come day f old now → Come day g now new
    → ((i : ℕ) → h i ≡ f i ++ g i)
    → Come day h old new
come_next day f g h old now new was one e = record {
  each = λ i lt.
      let there : i < length now.world.persons = (let c = was.count in omega (arith, lt, c)) in
      one.each i there ∙ ap (λ (P : Person). last_or P (g i)) (was.each i lt) ∙ sym (last_append (person_of i old.world) (f i) (g i))
      ∙ ap (last_or (person_of i old.world)) (sym (e i));
  count = one.count ∙ was.count;
  rest = one.rest ∙ ap (λ (W : World). record W { persons = new.world.persons }) was.rest;
  followed = λ t h. one.followed t (was.followed t h);
  wakes = one.wakes;
}

pub come_none : (day : DayInput) (f : ℕ → List Person) (old : Persons) → length old.wakes ≡ length old.world.persons
    → ((i : ℕ) → i < length old.world.persons → f i ≡ [])
    → Come day f old old
come_none day f old wakes e = record {
  each = λ i lt. ap (last_or (person_of i old.world)) (sym (e i lt));
  count = refl;
  rest = refl;
  followed = λ t h. h;
  wakes = wakes;
}

one_comes : (n i : ℕ) (P : Person) (xs : List Person) → i < length xs
    → get_or (set xs n P) i nobody ≡ last_or (get_or xs i nobody) (if_is n i P)
one_comes n i P xs lt =
    elim (cases_Bool (eqb n i)) [
      | inl e ↦
          let same : n ≡ i = eqb-true n i e in
          rw e (ap (λ (m : ℕ). get_or (set xs m P) i nobody) same ∙ get_or-set_same xs i P nobody lt)
      | inr e ↦
          let ne : n ≢ i = eqb-false n i e in
          rw e (get_or-set_other xs n i P nobody (λ q. ne (sym q)))
    ]

pub comes_in : (day : DayInput) (n : ℕ) (P : Person) (old new : Persons)
    → new.world ≡ record old.world { persons = set old.world.persons n P }
    → ((t : ℕ) → AreFollowedIn day t old.world.persons old.wakes → AreFollowedIn day t new.world.persons new.wakes)
    → length new.wakes ≡ length new.world.persons
    → Come day (λ i. if_is n i P) old new
comes_in day n P old new e follows wakes =
    let rows : new.world.persons ≡ set old.world.persons n P = ap (λ (W : World). W.persons) e in
    record {
      each = λ i lt. ap (λ (xs : List Person). get_or xs i nobody) rows ∙ one_comes n i P old.world.persons lt;
      count = ap length rows ∙ length-set old.world.persons n P;
      rest = e ∙ ap (λ (xs : List Person). record old.world { persons = xs }) (sym rows);
      followed = follows;
      wakes = wakes;
    }

-- RIDERS
riding_more : (i : ℕ) (v : VehicleId) (k : ℕ) (rs : List Rider) (es : List ℕ) (d : Rider) (c : ℕ) → k < length rs → k < length es
    → riding i v (take (suc k) rs) (take (suc k) es)
    ≡ riding i v (take k rs) (take k es) ++ if_is (get_or rs k d).person i (record { element = get_or es k c; place = place.Riding v })
riding_more i v k [] es d c lr le = absurd (omega arith)
riding_more i v k (r ∷ rs) [] d c lr le = absurd (omega arith)
riding_more i v zero (r ∷ rs) (e ∷ es) d c lr le = append-nil (if_is r.person i (record { element = e; place = place.Riding v }))
riding_more i v (suc k) (r ∷ rs) (e ∷ es) d c lr le =
    let here = if_is r.person i (record { element = e; place = place.Riding v }) in
    ap (λ (ps : List Person). here ++ ps) (riding_more i v k rs es d c (omega arith) (omega arith))
    ∙ sym (append_assoc here (riding i v (take k rs) (take k es))
    (if_is (get_or rs k d).person i (record { element = get_or es k c; place = place.Riding v })))

pub riding_next : (i : ℕ) (v : VehicleId) (k : ℕ) (rs : List Rider) (es : List ℕ) (d : Rider) (c : ℕ) → k < length rs → k < length es
    → riding i v (take (k + 1) rs) (take (k + 1) es)
    ≡ riding i v (take k rs) (take k es) ++ if_is (get_or rs k d).person i (record { element = get_or es k c; place = place.Riding v })
riding_next i v k rs es d c lr le =
    ap (λ (n : ℕ). riding i v (take n rs) (take n es)) (add-one k) ∙ riding_more i v k rs es d c lr le

pub riding_whole : (i : ℕ) (v : VehicleId) (k : ℕ) (rs : List Rider) (es : List ℕ) → min (length rs) (length es) ≤ k
    → riding i v (take k rs) (take k es) ≡ riding i v rs es
riding_whole i v zero [] es le = refl
riding_whole i v (suc k) [] es le = refl
riding_whole i v zero (r ∷ rs) [] le = refl
riding_whole i v (suc k) (r ∷ rs) [] le = refl
riding_whole i v zero (r ∷ rs) (e ∷ es) le = absurd (omega arith)
riding_whole i v (suc k) (r ∷ rs) (e ∷ es) le =
    ap (λ (ps : List Person). if_is r.person i (record { element = e; place = place.Riding v }) ++ ps)
    (riding_whole i v k rs es (omega arith))

-- A PARCEL
pub rides_of : (S : Setup) (t i : ℕ) (ms : List Moved)
    → flat_map (λ (y : Passed). riding i y.row.vehicle.id y.row.vehicle.riders y.elements) (map (passed_of S t) ms) ≡ all_riding i ms
rides_of S t i ms = flat_of_map (passed_of S t) (λ (y : Passed). riding i y.row.vehicle.id y.row.vehicle.riders y.elements) ms

pub flights_of : (S : Setup) (t i s : ℕ) (fs : List Teleported) → flat_map (flying i s) (map (flight_of S t) fs) ≡ flat_map (teleporting_in i s) fs
flights_of S t i s fs = flat_of_map (flight_of S t) (flying i s) fs

pub comes_of : (S : Setup) (t i s : ℕ) (ms : List Moved) (fs : List Teleported)
    → flat_map (λ (y : Passed). riding i y.row.vehicle.id y.row.vehicle.riders y.elements) (map (passed_of S t) ms)
    ++ flat_map (flying i s) (map (flight_of S t) fs)
    ≡ all_riding i ms ++ flat_map (teleporting_in i s) fs
comes_of S t i s ms fs =
    ap (λ (ps : List Person). ps ++ flat_map (flying i s) (map (flight_of S t) fs)) (rides_of S t i ms)
    ∙ ap (λ (ps : List Person). all_riding i ms ++ ps) (flights_of S t i s fs)

pub entered_of : (S : Setup) (t : ℕ) (ms : List Moved) → map entering_by ms ≡ map entered (map (passed_of S t) ms)
entered_of S t ms = sym (map_of_map (passed_of S t) entered ms)

pub same_come : (day : DayInput) (f g : ℕ → List Person) (old new : Persons) → Come day f old new → ((i : ℕ) → f i ≡ g i)
    → Come day g old new
same_come day f g old new h e = record {
  each = λ i lt. h.each i lt ∙ ap (last_or (person_of i old.world)) (e i);
  count = h.count;
  rest = h.rest;
  followed = h.followed;
  wakes = h.wakes;
}
