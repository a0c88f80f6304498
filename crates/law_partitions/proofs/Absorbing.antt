-- What p absorbs brings the persons of whom it had not heard.
use Rattle.traffic.proofs.Common.{◌≡◌, ℕ, List, ◌∙◌, length, ap, refl, sym, [], ◌∷◌, arith, ◌<◌, true, ◌++◌, ◌+◌, Bool, inl, inr, subst, ◌≤◌, false, suc, eqb}
use Rattle.traffic.proofs.Common.{zero, ◌-◌, ◌≢◌, ◌⊎◌, length-append, cases_Bool, eqb-true, and_parts, cases_lt, eq-eqb, eqb-false, nat_tests, flat_map-append}
use Rattle.traffic.proofs.Common.{sum_by-cons, flat_map, map, filter, Some, None, not, ◌&&◌, if◌then◌else◌, nat_le, VehicleId, world_at, below, numbers}
use Rattle.traffic.proofs.Common.{same_vehicle, World, person_of, at, on, Setup, act_after, leg_at, listed, IsListed, rows_of}
use Rattle.traffic.specs.declared.moves.Move.{Move}
use Rattle.traffic.specs.declared.moves.Move.TheVariants.{Transfer, Enter, SetFrontSince, Credit, LeaveHole, Report, Remove as Quit}
use Rattle.traffic.specs.declared.{riders.Rider.Rider, stage.Stage.TheVariants.Queue, world.Person.Person, world.Place.Place, world.Place.TheVariants.At}
use Rattle.traffic.specs.declared.world.{Place.TheVariants.Teleporting, Place.TheVariants.Waiting, Place.TheVariants.Riding, Place.TheVariants.Aborted, Row.Row}
use Rattle.events.specs.declared.event.VehicleId.TheVariants as vehicle
use Rattle.law_one_place.proofs.{Boarding.one_rider, Places.among_riders, Places.rides}
use Rattle.parts.specs.Owners.{Owner, owner_of, begins_in, crosses, leads, owner_of_person, link_at, lag}
use Rattle.parts.specs.Parts.{Passed, Flight, passed, came, came_last, down, is_late, has, flies_from, seconds_of_way, flight_at, flight_from, enters_queue}
use Rattle.parts.specs.Parts.{node_phase_moves, out}
use Rattle.law_partitions.proofs.{Calms.listed_in_one, Calms.unknown_queue, Carried.Additive, Carried.in_last, Carried.by_rows, Carried.by_vehicle}
use Rattle.law_partitions.proofs.{Carried.rider_of, Carried.twice_filtered, Carried.element_kept, Carried.carried, Carried.flown, Early.came_is, Ends.less}
use Rattle.law_partitions.proofs.{Handed.entered, Handed.enters_put, History.known, History.known_tail, Home.Lawful, Home.has-is, Joined.only_all}
use Rattle.law_partitions.proofs.{Joined.known_more, Lags.lag-some, Lags.lag-down, Lags.in_range, Listing.listed-filter, Owning.Arrivals, Tells.listed-cons}
use Rattle.law_partitions.{proofs.Tells.listed-append, specs.Alone.riding, specs.Alone.flying, specs.Alone.person_in, specs.Alone.or_first}

-- all of these rows are his
abbrev pub Only : Person → List Person → Type 0
Only P [] = Unit {0}
Only P (x ∷ xs) = (x ≡ P) × Only P xs

pub only-append : (P : Person) (xs ys : List Person) → Only P xs → Only P ys → Only P (xs ++ ys)
only-append P [] ys h g = g
only-append P (x ∷ xs) ys h g = (h.0, only-append P xs ys h.1 g)

pub first_only : (P : Person) (xs : List Person) → Only P xs → 1 ≤ length xs → or_first None xs ≡ Some P
first_only P [] h some = absurd (omega arith)
first_only P (x ∷ xs) h some = ap Some h.0

pub first_none : (xs : List Person) → length xs ≡ 0 → or_first None xs ≡ None
first_none [] h = refl
first_none (x ∷ xs) h = absurd (omega arith)

pub length_in : (f : ℕ → List Person) (q k c : ℕ) → k ≤ q → q < k + c → length (f q) ≤ length (flat_map f (numbers k c))
length_in f q k zero h g = absurd (omega arith)
length_in f q k (suc c) h g =
    let a = length-append (f k) (flat_map f (numbers (k + 1) c)) in
    elim (cases_Bool (eqb k q)) [
      | inl e ↦ let r = ap (λ (x : ℕ). length (f x)) (eqb-true k q e) in omega arith
      | inr e ↦ let d : k ≢ q = eqb-false k q e in let r = length_in f q (k + 1) c (omega arith) (omega arith) in omega arith
    ]

-- RIDERS OF A PARCEL
rider_rows : (W : World) (i : ℕ) (v : VehicleId) (P : Person) (rs : List Rider) → (1 ≤ among_riders i rs → record { element = (person_of i W).element; place = Riding v } ≡ P) →
    Only P (riding i v rs (map (λ (x : Rider). (person_of x.person W).element) rs)) × (length (riding i v rs (map (λ (x : Rider). (person_of x.person W).element) rs)) ≡ among_riders i rs)
rider_rows W i v P [] h = (tt, refl)
rider_rows W i v P (r ∷ rs) h =
    let c = sum_by-cons (one_rider i) r rs in
    elim (cases_Bool (eqb r.person i)) [
      | inl e ↦
          let d : among_riders i (r ∷ rs) ≡ 1 + among_riders i rs = c ∙ ap (λ (x : Bool). (if x then 1 else 0) + among_riders i rs) e in
          let more = rider_rows W i v P rs (λ g. h (omega arith)) in
          let q : record { element = (person_of r.person W).element; place = Riding v } ≡ P = ap (λ (j : ℕ). let x : Person = record { element = (person_of j W).element; place = Riding v } in x) (eqb-true r.person i e) ∙ h (omega arith) in
          let n = more.1 in
          let z : length (riding i v (r ∷ rs) (map (λ (x : Rider). (person_of x.person W).element) (r ∷ rs))) ≡ suc (length (riding i v rs (map (λ (x : Rider). (person_of x.person W).element) rs))) = (rw e refl) in
          let o : Only P (riding i v (r ∷ rs) (map (λ (x : Rider). (person_of x.person W).element) (r ∷ rs))) = (rw e (q, more.0)) in
          (o, omega arith)
      | inr e ↦
          let d : among_riders i (r ∷ rs) ≡ 0 + among_riders i rs = c ∙ ap (λ (x : Bool). (if x then 1 else 0) + among_riders i rs) e in
          let more = rider_rows W i v P rs (λ g. h (omega arith)) in
          let n = more.1 in
          let z : length (riding i v (r ∷ rs) (map (λ (x : Rider). (person_of x.person W).element) (r ∷ rs))) ≡ length (riding i v rs (map (λ (x : Rider). (person_of x.person W).element) rs)) = (rw e refl) in
          let o : Only P (riding i v (r ∷ rs) (map (λ (x : Rider). (person_of x.person W).element) (r ∷ rs))) = (rw e more.0) in
          (o, omega arith)
    ]

abbrev pub brought : ℕ → Passed → List Person
brought i y = riding i y.row.vehicle.id y.row.vehicle.riders y.elements

self_same : (u : VehicleId) → same_vehicle u u ≡ true
self_same (vehicle.Car a) = eq-eqb a a refl
self_same (vehicle.Transit d) = eq-eqb d d refl

rows_bring : (W : World) (i : ℕ) (P : Person) (rows : List Row) → ((u : VehicleId) → 1 ≤ listed i (rows_of u rows) → record { element = (person_of i W).element; place = Riding u } ≡ P) →
    Only P (flat_map (brought i) (map (passed W) rows)) × (length (flat_map (brought i) (map (passed W) rows)) ≡ listed i rows)
rows_bring W i P [] h = (tt, refl)
rows_bring W i P (r ∷ rs) h =
    let u = r.vehicle.id in
    let c = listed-cons i r rs in
    let same = self_same u in
    let mine_rows : listed i (rows_of u (r ∷ rs)) ≡ rides i r.vehicle + listed i (rows_of u rs) = (rw same (listed-cons i r (rows_of u rs))) in
    let one = rider_rows W i u P r.vehicle.riders (λ g. h u (omega arith)) in
    let more = rows_bring W i P rs (λ v g. h v (elim (cases_Bool (same_vehicle r.vehicle.id v)) [ inl e ↦ rw e (let d = listed-cons i r (rows_of v rs) in omega arith) | inr e ↦ rw e g ])) in
    let xs = brought i (passed W r) in
    let ys = flat_map (brought i) (map (passed W) rs) in
    let n = length-append xs ys in
    let n1 = one.1 in
    let n2 = more.1 in
    (only-append P xs ys one.0 more.0, omega arith)

-- a row of the parcel came on some link
pub find_lead : (S : Setup) (own : Owner) (q p : ℕ) (f : List Row → ℕ) → Additive f → f [] ≡ 0 → (ms : List Move) → 1 ≤ f (flat_map (enters_queue (leads S own q p)) ms) → (l : ℕ) × ((leads S own q p l ≡ true) × (1 ≤ f (entered l ms)))
find_lead S own q p f add zero_of [] h = absurd (omega arith)
find_lead S own q p f add zero_of (Transfer a z k was now ∷ ms) h =
    let m = now.link in
    let one : List Row = if leads S own q p m && on m Queue now then now ∷ [] else [] in
    let c = add one (flat_map (enters_queue (leads S own q p)) ms) in
    let here : List Row = if on m Queue now then now ∷ [] else [] in
    elim (cases_lt 0 (f one)) [
      | inl lt ↦ elim (cases_Bool (leads S own q p m)) [
        | inl e ↦
            let same : one ≡ here = (rw e refl) in
            let g : enters_queue (λ x. eqb x m) (Transfer a z k was now) ≡ here = enters_put m a z k was now in
            let d = add (enters_queue (λ x. eqb x m) (Transfer a z k was now)) (entered m ms) in
            let j = ap f (same ∙ sym g) in
            (m, (e, omega arith))
        | inr e ↦ let none : f one ≡ 0 = (rw e zero_of) in absurd (omega arith)
      ]
      | inr ge ↦
          let r = find_lead S own q p f add zero_of ms (omega arith) in
          let x = r.0 in
          let d = add (enters_queue (λ y. eqb y x) (Transfer a z k was now)) (entered x ms) in
          let g = r.1.1 in
          (x, (r.1.0, omega arith))
    ]
find_lead S own q p f add zero_of (Quit a z k was ∷ ms) h = find_lead S own q p f add zero_of ms h
find_lead S own q p f add zero_of (Enter now ∷ ms) h = find_lead S own q p f add zero_of ms h
find_lead S own q p f add zero_of (SetFrontSince a u ∷ ms) h = find_lead S own q p f add zero_of ms h
find_lead S own q p f add zero_of (Credit a c ∷ ms) h = find_lead S own q p f add zero_of ms h
find_lead S own q p f add zero_of (LeaveHole a u ∷ ms) h = find_lead S own q p f add zero_of ms h
find_lead S own q p f add zero_of (Report says ∷ ms) h = find_lead S own q p f add zero_of ms h

twice_flat : (g : Flight → List Person) (f : ℕ → List Flight) (ns : List ℕ) → flat_map g (flat_map f ns) ≡ flat_map (λ n. flat_map g (f n)) ns
twice_flat g f [] = refl
twice_flat g f (n ∷ ns) = flat_map-append g (f n) (flat_map f ns) ∙ ap (λ xs. flat_map g (f n) ++ xs) (twice_flat g f ns)

-- ONE PARCEL
module _ (S : Setup) (own : Owner) (p q i s : ℕ) (law : Lawful S) (arrivals : Arrivals S) (lt : i < length S.persons) (other : eqb q p ≡ false) where
  abbrev t : ℕ
  t = s + lag S own q p

  abbrev P : Person
  P = person_of i (world_at S t)

  abbrev some_lag : 1 ≤ lag S own q p
  some_lag = lag-some S own law.long q p

  -- the link over which he came
  parts_of : (l : ℕ) → leads S own q p l ≡ true → (begins_in S own l ≡ q) × (owner_of S own l ≡ p)
  parts_of l e = let g = and_parts (eqb (begins_in S own l) q) (eqb (owner_of S own l) p) e in (eqb-true (begins_in S own l) q g.0, eqb-true (owner_of S own l) p g.1)

  cross : (l : ℕ) → leads S own q p l ≡ true → crosses S own l ≡ true
  cross l e = let g = parts_of l e in ap (λ x. not (eqb x (owner_of S own l))) g.0 ∙ ap (λ x. not (eqb q x)) g.1 ∙ ap not other

  lag_is : (l : ℕ) → leads S own q p l ≡ true → lag S own (begins_in S own l) (owner_of S own l) ≡ lag S own q p
  lag_is l e = let g = parts_of l e in ap (λ x. lag S own x (owner_of S own l)) g.0 ∙ ap (lag S own q) g.1

  tail_is : (l : ℕ) → leads S own q p l ≡ true → at l Queue (world_at S t) ≡ known S t (lag S own q p) l ++ came_last S l t (lag S own q p)
  tail_is l e =
      let c = cross l e in
      let le = lag-down S own l c in
      let j = lag_is l e in
      known_tail S l t (lag S own q p) (in_range S own l c) (omega arith)

  none_of : (u : VehicleId) → listed i (world_at S t).rows ≡ 0 → 1 ≤ listed i (rows_of u (world_at S t).rows) → ⊥
  none_of u none some = let le = listed-filter i (λ (r : Row). same_vehicle r.vehicle.id u) (world_at S t).rows in absurd (omega arith)

  place_is : (u : VehicleId) (pl : Place) → P.place ≡ pl → 1 ≤ listed i (rows_of u (world_at S t).rows) → pl ≡ Riding u
  place_is u (Riding v) e some =
      let h : IsListed i (world_at S t).rows (Riding v) = subst (λ pl. IsListed i (world_at S t).rows pl) e (listed_in_one S t i lt) in
      ap (λ (x : VehicleId). Riding x) (sym (rider_of i u v (world_at S t).rows h.0 h.1 some))
  place_is u (At end) e some = absurd (none_of u (subst (λ pl. IsListed i (world_at S t).rows pl) e (listed_in_one S t i lt)) some)
  place_is u (Teleporting start) e some = absurd (none_of u (subst (λ pl. IsListed i (world_at S t).rows pl) e (listed_in_one S t i lt)) some)
  place_is u (Waiting stop since) e some = absurd (none_of u (subst (λ pl. IsListed i (world_at S t).rows pl) e (listed_in_one S t i lt)) some)
  place_is u (Aborted a) e some = absurd (none_of u (subst (λ pl. IsListed i (world_at S t).rows pl) e (listed_in_one S t i lt)) some)

  -- a rider of the parcel rides in that vehicle, and is as he was
  rider_is : (u : VehicleId) (l : ℕ) → leads S own q p l ≡ true → 1 ≤ listed i (rows_of u (came S l s)) → record { element = (person_of i (world_at S s)).element; place = Riding u } ≡ P
  rider_is u l e some =
      let c = cross l e in
      let j = lag_is l e in
      let some_l = some_lag in
      let W = world_at S t in
      let fu = by_vehicle i u in
      let all : 1 ≤ listed i (came S l s) = (let z = listed-filter i (λ (r : Row). same_vehicle r.vehicle.id u) (came S l s) in omega arith) in
      let in1 = in_last S l s (λ xs. listed i (rows_of u xs)) fu t (lag S own q p) (omega arith) (omega arith) in
      let a = ap (λ xs. listed i (rows_of u xs)) (tail_is l e) ∙ fu (known S t (lag S own q p) l) (came_last S l t (lag S own q p)) in
      let tw = twice_filtered i (λ (r : Row). same_vehicle r.vehicle.id u) (on l Queue) W.rows in
      let d = lag S own q p - 1 in
      let td : suc (s + d) ≡ t = omega arith in
      let kept : P ≡ person_of i (world_at S (suc s)) = ap (λ (x : ℕ). person_of i (world_at S x)) (sym td) ∙ carried S own i l law lt c s d (omega arith) all in
      let el : P.element ≡ (person_of i (world_at S s)).element = ap (λ (X : Person). X.element) kept ∙ element_kept S own s i l law arrivals lt (subst (λ xs. 1 ≤ listed i xs) (came_is S l s) all) in
      let pl : P.place ≡ Riding u = place_is u P.place refl (omega arith) in
      λ k. record { element = sym el k; place = sym pl k }

  -- and p has him once it has absorbed it
  rider_had : (l : ℕ) → leads S own q p l ≡ true → 1 ≤ listed i (came S l s) → has S own (less S own) p t i ≡ true
  rider_had l e some =
      let c = cross l e in
      let le = lag-down S own l c in
      let j = lag_is l e in
      let some_l = some_lag in
      let d = lag S own q p - 1 in
      let g = parts_of l e in
      let dn : down S own (less S own) l ≡ d = (rw c (ap (λ x. x - 1) j)) in
      let sd : lag S own q p ≡ suc d = omega arith in
      let back : t - suc d ≡ s = omega arith in
      let m = known_more S l t d (in_range S own l c) (omega arith) (omega arith) in
      let n : listed i (known S t (suc d) l) + listed i (came S l (t - suc d)) ≡ listed i (known S t d l) = sym (listed-append i (known S t (suc d) l) (came S l (t - suc d))) ∙ ap (listed i) m in
      let b = ap (λ (x : ℕ). listed i (came S l x)) back in
      let k = ap (λ (x : ℕ). listed i (known S t x l)) dn in
      elim (cases_Bool (has S own (less S own) p t i)) [
        | inl y ↦ y
        | inr n0 ↦ let z = unknown_queue S own p t i law lt l (eq-eqb (owner_of S own l) p g.1) n0 in absurd (omega arith)
      ]

  -- a person who flew
  flew : let N = person_of i (world_at S (suc s)) in N.place ≡ Teleporting s → flies_from S own i N.element ≡ q → eqb (owner_of S own (act_after S i N.element).link) p ≡ true → record { element = N.element; place = Teleporting s } ≡ P
  flew e from to =
      let N = person_of i (world_at S (suc s)) in
      let some_l = some_lag in
      let d = lag S own q p - 1 in
      let td : suc (s + d) ≡ t = omega arith in
      let now : N ≡ record { element = N.element; place = Teleporting s } = λ k. record { element = N.element; place = e k } in
      sym (ap (λ (x : ℕ). person_of i (world_at S x)) (sym td) ∙ flown S own p q i s N.element law lt other from to d (omega arith) now)

  flew_had : P.place ≡ Teleporting s → flies_from S own i P.element ≡ q → eqb (owner_of S own (act_after S i P.element).link) p ≡ true → has S own (less S own) p t i ≡ true
  flew_had e from to =
      let some_l = some_lag in
      let le : nat_le t (s + less S own q p) ≡ false = grind (arith, nat_tests) in
      let late : is_late S own (less S own) p t i P.element (Teleporting s) ≡ false = ap (λ (x : ℕ). not (eqb x p) && nat_le t (s + less S own x p)) from ∙ (rw (other, le) refl) in
      has-is S own (less S own) p t i lt (Teleporting s) e ∙ (rw (to, late) refl)

  -- THE VEHICLES OF THE PARCEL
  abbrev rows : List Row
  rows = flat_map (enters_queue (leads S own q p)) (node_phase_moves S s)

  pub vehicles_bring : Only P (flat_map (brought i) (map (passed (world_at S s)) rows)) × (length (flat_map (brought i) (map (passed (world_at S s)) rows)) ≡ listed i rows)
  vehicles_bring = rows_bring (world_at S s) i P rows (λ u some.
      let f = find_lead S own q p (λ xs. listed i (rows_of u xs)) (by_vehicle i u) refl (node_phase_moves S s) some in
      rider_is u f.0 f.1.0 f.1.1)

  vehicles_had : 1 ≤ listed i rows → has S own (less S own) p t i ≡ true
  vehicles_had some = let f = find_lead S own q p (listed i) (by_rows i) refl (node_phase_moves S s) some in rider_had f.0 f.1.0 f.1.1

  -- AND ITS FLIGHTS
  abbrev N : ℕ → Person
  N j = person_of j (world_at S (suc s))

  abbrev Brought : List Flight → Type 0
  Brought fs = (flat_map (flying i s) fs ≡ []) ⊎ ((flat_map (flying i s) fs ≡ P ∷ []) × (has S own (less S own) p t i ≡ true))

  one_brought : (j due : ℕ) → (N j).place ≡ Teleporting s → eqb (flies_from S own j (N j).element) q ≡ true → eqb (owner_of S own (act_after S j (N j).element).link) p ≡ true → Brought (record { person = j; element = (N j).element; due = due } ∷ [])
  one_brought j due e from to =
      elim (cases_Bool (eqb j i)) [
        | inl f ↦
            let ji = eqb-true j i f in
            let e2 : (N i).place ≡ Teleporting s = ap (λ (x : ℕ). (N x).place) (sym ji) ∙ e in
            let from2 : flies_from S own i (N i).element ≡ q = ap (λ (x : ℕ). flies_from S own x (N x).element) (sym ji) ∙ eqb-true (flies_from S own j (N j).element) q from in
            let to2 : eqb (owner_of S own (act_after S i (N i).element).link) p ≡ true = ap (λ (x : ℕ). eqb (owner_of S own (act_after S x (N x).element).link) p) (sym ji) ∙ to in
            let is : record { element = (N i).element; place = Teleporting s } ≡ P = flew e2 from2 to2 in
            let here : record { element = (N j).element; place = Teleporting s } ≡ P = ap (λ (x : ℕ). let y : Person = record { element = (N x).element; place = Teleporting s } in y) ji ∙ is in
            let el : (N i).element ≡ P.element = ap (λ (X : Person). X.element) is in
            let yes_has = flew_had (sym (ap (λ (X : Person). X.place) is)) (ap (flies_from S own i) (sym el) ∙ from2) (ap (λ (x : ℕ). eqb (owner_of S own (act_after S i x).link) p) (sym el) ∙ to2) in
            inr ((rw f (ap (λ (x : Person). x ∷ []) here)), yes_has)
        | inr f ↦ inl (rw f refl)
      ]

  place_brought : (j : ℕ) (pl : Place) → (N j).place ≡ pl → eqb (flies_from S own j (N j).element) q ≡ true → eqb (owner_of S own (link_at S (world_at S (suc s)) j (N j).element pl)) p ≡ true → Brought (flight_at S s j (N j).element pl)
  place_brought j (Teleporting start) e from to =
      elim (cases_Bool (eqb start s)) [
        | inl g ↦ rw g (one_brought j (start + seconds_of_way (leg_at S j (N j).element)) (e ∙ ap (λ (x : ℕ). Teleporting x) (eqb-true start s g)) from to)
        | inr g ↦ inl (rw g refl)
      ]
  place_brought j (At end) e from to = inl refl
  place_brought j (Waiting stop since) e from to = inl refl
  place_brought j (Riding v) e from to = inl refl
  place_brought j (Aborted a) e from to = inl refl

  flight_brought : (j : ℕ) → Brought (flight_from S own q p s (world_at S (suc s)) j)
  flight_brought j =
      let c1 = eqb (flies_from S own j (N j).element) q in
      let c2 = eqb (owner_of_person S own (world_at S (suc s)) j) p in
      elim (cases_Bool (c1 && c2)) [
        | inl z ↦ let g = and_parts c1 c2 z in rw z (place_brought j (N j).place refl g.0 g.1)
        | inr z ↦ inl (rw z refl)
      ]

  flights_bring : (ns : List ℕ) → let xs = flat_map (flying i s) (flat_map (flight_from S own q p s (world_at S (suc s))) ns) in Only P xs × (1 ≤ length xs → has S own (less S own) p t i ≡ true)
  flights_bring [] = (tt, λ h. absurd (omega arith))
  flights_bring (n ∷ ns) =
      let f = flight_from S own q p s (world_at S (suc s)) in
      let r = flights_bring ns in
      let split : flat_map (flying i s) (f n ++ flat_map f ns) ≡ flat_map (flying i s) (f n) ++ flat_map (flying i s) (flat_map f ns) = flat_map-append (flying i s) (f n) (flat_map f ns) in
      elim (flight_brought n) [
        | inl e ↦ let q2 = split ∙ ap (λ ys. ys ++ flat_map (flying i s) (flat_map f ns)) e in rw q2 r
        | inr e ↦ let q2 = split ∙ ap (λ ys. ys ++ flat_map (flying i s) (flat_map f ns)) e.0 in rw q2 ((refl, r.0), λ h. e.1)
      ]

  -- ALL OF IT
  pub parcel_brings : let xs = person_in i s (Some (out S own q p s)) in Only P xs × (1 ≤ length xs → has S own (less S own) p t i ≡ true)
  unfolding out
  parcel_brings =
      let v = vehicles_bring in
      let f = flights_bring (below (length S.persons)) in
      let xs = flat_map (brought i) (map (passed (world_at S s)) rows) in
      let ys = flat_map (flying i s) (flat_map (flight_from S own q p s (world_at S (suc s))) (below (length S.persons))) in
      let n = length-append xs ys in
      let n1 = v.1 in
      (only-append P xs ys v.0 f.0, λ h. elim (cases_lt 0 (listed i rows)) [ inl some ↦ vehicles_had (omega arith) | inr none ↦ f.1 (omega arith) ])

  -- WHO IS IN IT
  pub rider_in : (l : ℕ) → leads S own q p l ≡ true → 1 ≤ listed i (came S l s) → 1 ≤ length (person_in i s (Some (out S own q p s)))
  unfolding out
  rider_in l e some =
      let xs = flat_map (brought i) (map (passed (world_at S s)) rows) in
      let ys = flat_map (flying i s) (flat_map (flight_from S own q p s (world_at S (suc s))) (below (length S.persons))) in
      let n = length-append xs ys in
      let n1 = vehicles_bring.1 in
      let a : filter (λ (r : Row). eqb r.link l) rows ≡ came S l s = only_all S own q p l e (node_phase_moves S s) in
      let b = ap (listed i) a in
      let le = listed-filter i (λ (r : Row). eqb r.link l) rows in omega arith

  pub flight_in : (N i).place ≡ Teleporting s → flies_from S own i (N i).element ≡ q → eqb (owner_of S own (act_after S i (N i).element).link) p ≡ true → 1 ≤ length (person_in i s (Some (out S own q p s)))
  unfolding out
  flight_in e from to =
      let f = flight_from S own q p s (world_at S (suc s)) in
      let xs = flat_map (brought i) (map (passed (world_at S s)) rows) in
      let ys = flat_map (flying i s) (flat_map f (below (length S.persons))) in
      let n = length-append xs ys in
      let c1 : eqb (flies_from S own i (N i).element) q ≡ true = eq-eqb (flies_from S own i (N i).element) q from in
      let c2 : eqb (owner_of_person S own (world_at S (suc s)) i) p ≡ true = ap (λ (pl : Place). eqb (owner_of S own (link_at S (world_at S (suc s)) i (N i).element pl)) p) e ∙ to in
      let one : f i ≡ flight_at S s i (N i).element (Teleporting s) = (rw (c1, c2) (ap (flight_at S s i (N i).element) e)) in
      let ss = eq-eqb s s refl in
      let ii = eq-eqb i i refl in
      let two : length (flat_map (flying i s) (f i)) ≡ 1 = ap (λ fs. length (flat_map (flying i s) fs)) one ∙ (rw ss (rw ii refl)) in
      let each : flat_map (flying i s) (flat_map f (below (length S.persons))) ≡ flat_map (λ j. flat_map (flying i s) (f j)) (below (length S.persons)) = twice_flat (flying i s) f (below (length S.persons)) in
      let m = length_in (λ j. flat_map (flying i s) (f j)) i 0 (length S.persons) (omega arith) (omega arith) in
      let k = ap length each in omega arith
