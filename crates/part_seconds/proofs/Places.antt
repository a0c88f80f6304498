-- Parcels at the places of neighbours.
use Rattle.traffic.proofs.Common.{◌≡◌, ◌≢◌, ℕ, ◌<◌, List, [], ◌∷◌, ◌++◌, ◌∙◌, ap, refl, sym, arith, inl, inr, cases_Bool, Bool, true, false, length, set}
use Rattle.traffic.proofs.Common.{filter, map, eqb, eqb-true, eqb-false, append-nil, append_assoc, cond, if◌then◌else◌, filter-append, length-set}
use Rattle.traffic.proofs.Common.{get_or-set_same, get_or-set_other, lt-ltb, eq-eqb, ne_eqb, nat_lt, Option, Some, None, ◌==◌}
use Rattle.traffic.specs.{Setup.Setup, declared.world.Person.Person}
use Rattle.std.proofs.lemmas.Bool.{le-ltb}
use Rattle.std.{proofs.lemmas.List.Quantifiers.position-Some, proofs.lemmas.List.Sums.position_or_len_is, specs.List.position_or_len}
use Rattle.node_move.specs.declared.crossings.Entering.{Entering}
use Rattle.parts.specs.Owners.{Owner}
use Rattle.step_core.specs.{Exchanges.Ascend, Exchanges.IsPlaceOf, Nets.border_at, Nets.no_border, declared.part.Border.Border}
use Rattle.part_seconds.{proofs.Lists.next_map, specs.Leaving.AreOthers, specs.Parcels.nothing}
use Rattle.part_seconds.specs.Sending.{parcel_at, with_vehicles, with_teleported, with_freed, place_in, is_at, changed_at, AreMore, moved_of, vehicle_place}
use Rattle.part_seconds.specs.Sending.{more_vehicles, teleported_place, teleported_of, more_teleported, freed_place, more_freed}
use Rattle.part_seconds.specs.declared.contents.{Contents.Contents, FreedPlaces.FreedPlaces, Moved.Moved, Teleported.Teleported}

changed_count : (o : Option ℕ) (f : Contents → Contents) (xs : List Contents) → length (changed_at o f xs) ≡ length xs
changed_count None f xs = refl
changed_count (Some k) f xs = length-set xs k (f (parcel_at xs k))

changed_each : (o : Option ℕ) (f : Contents → Contents) (xs : List Contents) (k : ℕ) → k < length xs
    → parcel_at (changed_at o f xs) k ≡ (if is_at k o then f (parcel_at xs k) else parcel_at xs k)
changed_each None f xs k lt = refl
changed_each (Some j) f xs k lt =
    elim (cases_Bool (eqb j k)) [
      | inl e ↦
          let same : j ≡ k = eqb-true j k e in
          rw e (ap (λ (n : ℕ). parcel_at (set xs n (f (parcel_at xs n))) k) same ∙ get_or-set_same xs k (f (parcel_at xs k)) nothing lt)
      | inr e ↦
          let ne : j ≢ k = eqb-false j k e in
          rw e (get_or-set_other xs j k (f (parcel_at xs j)) nothing (λ q. ne (sym q)))
    ]

-- one more step
pub more_next : (o : Option ℕ) (g : Contents → Contents) (f f2 : ℕ → Contents → Contents) (old now new : List Contents) → AreMore f old now
    → new ≡ changed_at o g now → ((k : ℕ) (x : Contents) → (if is_at k o then g (f k x) else f k x) ≡ f2 k x) → AreMore f2 old new
more_next o g f f2 old now new was e h = record {
  count = ap length e ∙ changed_count o g now ∙ was.count;
  each = λ k lt.
      let there : k < length now = (let c = was.count in omega (arith, lt, c)) in
      ap (λ (xs : List Contents). parcel_at xs k) e ∙ changed_each o g now k there
      ∙ ap (λ (x : Contents). if is_at k o then g x else x) (was.each k lt)
      ∙ h k (parcel_at old k);
}

pub more_none : (f : ℕ → Contents → Contents) (xs : List Contents) → ((k : ℕ) (x : Contents) → x ≡ f k x) → AreMore f xs xs
more_none f xs h = record { count = refl; each = λ k lt. h k (parcel_at xs k) }

-- VEHICLES
more_of_vehicles : (b : Bool) (x : Contents) (ys : List Moved) (m : Moved)
    → (if b then with_vehicles (m ∷ []) (with_vehicles ys x) else with_vehicles ys x) ≡ with_vehicles (ys ++ (if b then m ∷ [] else [])) x
more_of_vehicles true x ys m = ap (λ (vs : List Moved). record x { vehicles = vs }) (append_assoc x.vehicles ys (m ∷ []))
more_of_vehicles false x ys m = ap (λ (vs : List Moved). record x { vehicles = x.vehicles ++ vs }) (sym (append-nil ys))

pub no_vehicles : (x : Contents) → x ≡ with_vehicles [] x
no_vehicles x = ap (λ (vs : List Moved). record x { vehicles = vs }) (sym (append-nil x.vehicles))

pub next_vehicles : (S : Setup) (own : Owner) (borders : List Border) (persons : List Person) (es : List Entering) (e : Entering) (k : ℕ)
    (x : Contents)
    → (if is_at k (vehicle_place S own borders e) then with_vehicles (moved_of persons e ∷ []) (more_vehicles S own borders persons es k x)
    else more_vehicles S own borders persons es k x) ≡ more_vehicles S own borders persons (es ++ e ∷ []) k x
next_vehicles S own borders persons es e k x =
    let goes : Entering → Bool = λ e. is_at k (vehicle_place S own borders e) in
    more_of_vehicles (goes e) x (map (moved_of persons) (filter goes es)) (moved_of persons e)
    ∙ ap (λ (ms : List Moved). with_vehicles ms x) (sym (next_map (moved_of persons) goes es e))

-- TELEPORTED PERSONS
more_of_teleported : (b : Bool) (x : Contents) (ys : List Teleported) (m : Teleported)
    → (if b then with_teleported (m ∷ []) (with_teleported ys x) else with_teleported ys x) ≡ with_teleported (ys ++ (if b then m ∷ [] else [])) x
more_of_teleported true x ys m = ap (λ (vs : List Teleported). record x { teleported = vs }) (append_assoc x.teleported ys (m ∷ []))
more_of_teleported false x ys m = ap (λ (vs : List Teleported). record x { teleported = x.teleported ++ vs }) (sym (append-nil ys))

pub none_teleported : (x : Contents) → x ≡ with_teleported [] x
none_teleported x = ap (λ (vs : List Teleported). record x { teleported = vs }) (sym (append-nil x.teleported))

pub next_teleported : (S : Setup) (own : Owner) (p : ℕ) (borders : List Border) (t : ℕ) (persons : List Person) (ns : List ℕ) (n k : ℕ)
    (x : Contents)
    → (if is_at k (teleported_place S own p borders t persons n)
    then with_teleported (teleported_of persons n ∷ []) (more_teleported S own p borders t persons ns k x)
    else more_teleported S own p borders t persons ns k x) ≡ more_teleported S own p borders t persons (ns ++ n ∷ []) k x
next_teleported S own p borders t persons ns n k x =
    let goes : ℕ → Bool = λ i. is_at k (teleported_place S own p borders t persons i) in
    more_of_teleported (goes n) x (map (teleported_of persons) (filter goes ns)) (teleported_of persons n)
    ∙ ap (λ (ms : List Teleported). with_teleported ms x) (sym (next_map (teleported_of persons) goes ns n))

-- FREED PLACES
more_of_freed : (b : Bool) (x : Contents) (ys : List FreedPlaces) (m : FreedPlaces)
    → (if b then with_freed (m ∷ []) (with_freed ys x) else with_freed ys x) ≡ with_freed (ys ++ (if b then m ∷ [] else [])) x
more_of_freed true x ys m = ap (λ (vs : List FreedPlaces). record x { freed = vs }) (append_assoc x.freed ys (m ∷ []))
more_of_freed false x ys m = ap (λ (vs : List FreedPlaces). record x { freed = x.freed ++ vs }) (sym (append-nil ys))

pub no_freed : (x : Contents) → x ≡ with_freed [] x
no_freed x = ap (λ (vs : List FreedPlaces). record x { freed = vs }) (sym (append-nil x.freed))

pub next_freed : (S : Setup) (own : Owner) (borders : List Border) (fs : List FreedPlaces) (f : FreedPlaces) (k : ℕ) (x : Contents)
    → (if is_at k (freed_place S own borders f) then with_freed (f ∷ []) (more_freed S own borders fs k x)
    else more_freed S own borders fs k x) ≡ more_freed S own borders (fs ++ f ∷ []) k x
next_freed S own borders fs f k x =
    let goes : FreedPlaces → Bool = λ f. is_at k (freed_place S own borders f) in
    more_of_freed (goes f) x (filter goes fs) f
    ∙ ap (λ (ms : List FreedPlaces). with_freed ms x) (sym (filter-append goes fs (f ∷ [])))

-- THE PLACE of a neighbour is where it stands
place_found : (borders : List Border) (q k : ℕ) → position_or_len (λ (b : Border). b.neighbour == q) borders ≡ k → k < length borders
    → place_in borders q ≡ Some k
place_found borders q k e lt =
    ap (λ (m : ℕ). cond (nat_lt m (length borders)) (Some m) None) e
    ∙ ap (λ (b : Bool). cond b (Some k) None) (lt-ltb k (length borders) lt)

-- it is the only one of this number
pub place_of_is : (borders : List Border) (q : ℕ) (k : ℕ) → Ascend borders → IsPlaceOf borders q k → Some k ≡ place_in borders q
place_of_is borders q k ascend h =
    sym (place_found borders q k
    (position_or_len_is (λ (b : Border). b.neighbour == q) borders k no_border (omega (arith, h.there))
    (λ j less. ne_eqb (border_at borders j).neighbour q (λ w. let up = ascend j k less h.there in let is = h.is in omega (arith, up, w, is)))
    (λ l. eq-eqb (border_at borders k).neighbour q h.is))
    h.there)

pub no_place : (borders : List Border) (q : ℕ) → ((k : ℕ) → k < length borders → (border_at borders k).neighbour ≢ q)
    → None ≡ place_in borders q
no_place borders q none =
    let e : position_or_len (λ (b : Border). b.neighbour == q) borders ≡ length borders
    = position_or_len_is (λ (b : Border). b.neighbour == q) borders (length borders) no_border (omega arith)
    (λ j less. ne_eqb (border_at borders j).neighbour q (none j less)) (λ l. absurd (omega (arith, l))) in
    sym (ap (λ (m : ℕ). cond (nat_lt m (length borders)) (Some m) None) e
    ∙ ap (λ (b : Bool). cond b (Some (length borders)) None) (le-ltb (length borders) (length borders) (omega arith)))

place_off : (borders : List Border) (q k : ℕ) (o : Option ℕ) → place_in borders q ≡ o → ((border_at borders k).neighbour == q) ≡ false
    → is_at k o ≡ false
place_off borders q k None e off = refl
place_off borders q k (Some j) e off =
    let there = position-Some (λ (b : Border). b.neighbour == q) borders j no_border e in
    elim (cases_Bool (eqb j k)) [
      | inl f ↦
          let same : j ≡ k = eqb-true j k f in
          let yes : ((border_at borders k).neighbour == q) ≡ true
          = ap (λ (m : ℕ). (border_at borders m).neighbour == q) (sym same) ∙ there.1 in
          absurd (let z : true ≡ false = sym yes ∙ off in cc)
      | inr f ↦ f
    ]

pub place_is : (p : ℕ) (borders : List Border) (k q : ℕ) → AreOthers p borders → k < length borders
    → is_at k (place_in borders q) ≡ (q == (border_at borders k).neighbour)
place_is p borders k q others lt =
    let n = (border_at borders k).neighbour in
    elim (cases_Bool (eqb n q)) [
      | inl e ↦
          let same : n ≡ q = eqb-true n q e in
          let first : position_or_len (λ (b : Border). b.neighbour == q) borders ≡ k
          = position_or_len_is (λ (b : Border). b.neighbour == q) borders k no_border (omega (arith, lt))
          (λ j less. ne_eqb (border_at borders j).neighbour q
          (λ w. let up = others.ascend j k less lt in omega (arith, up, w, same)))
          (λ l. e) in
          ap (is_at k) (place_found borders q k first lt) ∙ eq-eqb k k refl ∙ sym (eq-eqb q n (sym same))
      | inr e ↦
          let ne : n ≢ q = eqb-false n q e in
          place_off borders q k (place_in borders q) refl e ∙ sym (ne_eqb q n (λ w. ne (sym w)))
    ]
