-- Until a parcel is absorbed, those who are in it are as it says.
use Rattle.traffic.proofs.Common.{◌≡◌, ℕ, suc, ◌+◌, ◌-◌, ◌<◌, ◌≤◌, Bool, true, false, List, [], ◌∷◌, ◌++◌, ◌∙◌, ap, refl, sym, subst, arith, inl, inr}
use Rattle.traffic.proofs.Common.{cases_Bool, cases_lt, and_parts, not, true≢false, eqb, eqb-true, eq-eqb, lt-ltb, ltb-true, length, length-append, sum_by-cons}
use Rattle.traffic.proofs.Common.{flat_map, map, filter, list_any, if◌then◌else◌, ◌&&◌, ◌||◌, Some, VehicleId, Setup, World, person_of, at, on, world_at, below}
use Rattle.traffic.proofs.{Common.link_of_vehicle, Common.listed, Common.IsListed, Each.each_map, Each.each_flat_all}
use Rattle.traffic.specs.declared.{moves.Move.Move, moves.Move.TheVariants.Transfer, riders.Rider.Rider, stage.Stage.TheVariants.Queue}
use Rattle.traffic.specs.declared.world.{Person.Person, Place.TheVariants.Teleporting, Place.TheVariants.Riding, Row.Row}
use Rattle.std.specs.List.{AllByRecursion as Each}
use Rattle.law_one_place.proofs.{Boarding.one_rider, Places.among_riders}
use Rattle.law_sound_setups.specs.Setups.{IsSoundSetup}
use Rattle.parts.specs.Owners.{Owner, owner_of, begins_in, crosses, leads, near, lag}
use Rattle.parts.specs.Parts.{Passed, Flight, Parcel, passed, came, came_last, rides_in, flies_from, flight_from, enters_queue, node_phase_moves, out, carries}
use Rattle.law_partitions.proofs.{Absorbed.near_other, Absorbing.Only, Absorbing.brought, Absorbing.find_lead, Absorbing.parcel_brings, Calms.listed_in_one}
use Rattle.law_partitions.proofs.{Carried.in_last, Carried.by_rows, Carried.carried, Carried.flown, Enders.or_true, Enders.or_either, Enders.is_his}
use Rattle.law_partitions.proofs.{Enders.from_flights, Enders.parcel_rows, Enders.carries_is, History.known, History.known_tail, Joined.out-rows, Lags.lag-some}
use Rattle.law_partitions.proofs.{Lags.lag-down, Lags.in_range, Listing.listed_home, Riders.rider_link, Tells.listed-cons, Tells.listed-append}
use Rattle.law_partitions.specs.{Alone.riding, Alone.flying, Alone.person_in, Laws.IsOwner, Premises.Lawful, Premises.Arrivals}
use Rattle.law_last_parcels.specs.Last.{RideSo, FliesSo, IsStillSo}

-- ALL OF THEM HIS
only_front : (P : Person) (xs ys : List Person) → Only P (xs ++ ys) → Only P xs
only_front P [] ys h = tt
only_front P (x ∷ xs) ys h = (h.0, only_front P xs ys h.1)

only_behind : (P : Person) (xs ys : List Person) → Only P (xs ++ ys) → Only P ys
only_behind P [] ys h = h
only_behind P (x ∷ xs) ys h = only_behind P xs ys h.1

only_none : (P : Person) (xs : List Person) → length xs ≤ 0 → Only P xs
only_none P [] h = tt
only_none P (x ∷ xs) h = absurd (omega arith)

first_is : (b : Bool) (x P : Person) (ys : List Person) → b ≡ true → Only P ((if b then x ∷ [] else []) ++ ys) → x ≡ P
first_is true x P ys e h = h.0
first_is false x P ys e h = absurd (true≢false (sym e))

-- WHO IS BROUGHT IS IN THE PARCEL
riding_few : (i : ℕ) (v : VehicleId) (rs : List Rider) (es : List ℕ) → length (riding i v rs es) ≤ among_riders i rs
riding_few i v [] es = omega arith
riding_few i v (r ∷ rs) [] = omega arith
riding_few i v (r ∷ rs) (e ∷ es) =
    let more = riding_few i v rs es in
    let c = sum_by-cons (one_rider i) r rs in
    elim (cases_Bool (eqb r.person i)) [
      | inl y ↦
          let d : among_riders i (r ∷ rs) ≡ 1 + among_riders i rs = c ∙ ap (λ (b : Bool). (if b then 1 else 0) + among_riders i rs) y in
          let n : length (riding i v (r ∷ rs) (e ∷ es)) ≡ suc (length (riding i v rs es)) = rw y refl in
          omega arith
      | inr y ↦
          let d : among_riders i (r ∷ rs) ≡ 0 + among_riders i rs = c ∙ ap (λ (b : Bool). (if b then 1 else 0) + among_riders i rs) y in
          let n : length (riding i v (r ∷ rs) (e ∷ es)) ≡ length (riding i v rs es) = rw y refl in
          omega arith
    ]

abbrev row_of : Passed → Row
row_of y = y.row

brought_few : (i : ℕ) (ys : List Passed) → length (flat_map (brought i) ys) ≤ listed i (map row_of ys)
brought_few i [] = omega arith
brought_few i (y ∷ ys) =
    let one = riding_few i y.row.vehicle.id y.row.vehicle.riders y.elements in
    let more = brought_few i ys in
    let a = length-append (brought i y) (flat_map (brought i) ys) in
    let c = listed-cons i y.row (map row_of ys) in
    omega arith

flown_some : (i s : ℕ) (fs : List Flight) → 1 ≤ length (flat_map (flying i s) fs) → list_any (is_his i) fs ≡ true
flown_some i s [] h = absurd (omega arith)
flown_some i s (f ∷ fs) h =
    elim (cases_Bool (eqb f.person i)) [
      | inl y ↦ rw y refl
      | inr y ↦ let g : 1 ≤ length (flat_map (flying i s) fs) = simp y at h in rw y (flown_some i s fs g)
    ]

is_in : (i s : ℕ) (x : Parcel) → 1 ≤ length (person_in i s (Some x)) → carries i x ≡ true
is_in i s x h =
    let rows = map row_of x.vehicles in
    let few = brought_few i x.vehicles in
    let a = length-append (flat_map (brought i) x.vehicles) (flat_map (flying i s) x.flights) in
    elim (cases_lt 0 (length (flat_map (brought i) x.vehicles))) [
      | inl lt ↦ let y : rides_in i rows ≡ true = lt-ltb 0 (listed i rows) (omega arith) in rw y refl
      | inr ge ↦
          let y = flown_some i s x.flights (omega arith) in
          ap (λ (b : Bool). rides_in i rows || b) y ∙ or_true (rides_in i rows)
    ]

-- AS THEY ARE IN A WORLD
module _ (S : Setup) (W : World) where
  abbrev There : ℕ → Type 0
  There i = i < length S.persons

  riders_so : (l : ℕ) (v : VehicleId) (rs : List Rider) (es : List ℕ)
      → ((i : ℕ) → There i → Only (person_of i W) (riding i v rs es))
      → ((i : ℕ) → There i → (person_of i W).place ≡ Riding v → 1 ≤ among_riders i rs → link_of_vehicle v W.rows ≡ l) → RideSo S W l v rs es
  riders_so l v [] es only link = tt
  riders_so l v (r ∷ rs) [] only link = tt
  riders_so l v (r ∷ rs) (e ∷ es) only link =
      let c : (i : ℕ) → among_riders i (r ∷ rs) ≡ one_rider i r + among_riders i rs = λ i. sum_by-cons (one_rider i) r rs in
      let P : Person = record { element = e; place = Riding v } in
      let same = eq-eqb r.person r.person refl in
      let first : There r.person → P ≡ person_of r.person W
      = λ there. first_is (eqb r.person r.person) P (person_of r.person W) (riding r.person v rs es) same (only r.person there) in
      let d : among_riders r.person (r ∷ rs) ≡ 1 + among_riders r.person rs
      = c r.person ∙ ap (λ (b : Bool). (if b then 1 else 0) + among_riders r.person rs) same in
      let some : 1 ≤ among_riders r.person (r ∷ rs) = omega arith in (
        λ there. record {
          state = sym (first there);
          link = link r.person there (ap (λ (X : Person). X.place) (sym (first there))) some;
        },
        riders_so l v rs es
            (λ i there. only_behind (person_of i W) (if eqb r.person i then P ∷ [] else []) (riding i v rs es) (only i there))
            (λ i there e more. link i there e (let d = c i in omega arith)),
      )

  abbrev his_rows : ℕ → List Passed → List Row
  his_rows m ys = filter (λ (r : Row). eqb r.link m) (map row_of ys)

  vehicles_so : (ys : List Passed) → ((i : ℕ) → There i → Only (person_of i W) (flat_map (brought i) ys))
      → ((i m : ℕ) (v : VehicleId) → There i → (person_of i W).place ≡ Riding v → 1 ≤ listed i (his_rows m ys)
      → link_of_vehicle v W.rows ≡ m)
      → Each (λ (y : Passed). RideSo S W y.row.link y.row.vehicle.id y.row.vehicle.riders y.elements) ys
  vehicles_so [] only link = tt
  vehicles_so (y ∷ ys) only link =
      let l = y.row.link in
      let v = y.row.vehicle.id in
      let same = eq-eqb l l refl in (
        riders_so l v y.row.vehicle.riders y.elements (λ i there. only_front (person_of i W) (brought i y) (flat_map (brought i) ys)
            (only i there))
            (λ i there e some. link i l v there e (rw same (let c = listed-cons i y.row (his_rows l ys) in omega arith))),
        vehicles_so ys (λ i there. only_behind (person_of i W) (brought i y) (flat_map (brought i) ys) (only i there))
            (λ i m u there e some. link i m u there e (elim (cases_Bool (eqb l m)) [
              | inl f ↦ rw f (let c = listed-cons i y.row (his_rows m ys) in omega arith)
              | inr f ↦ rw f some
            ])),
      )

  flights_so : (s : ℕ) (fs : List Flight) → ((i : ℕ) → There i → Only (person_of i W) (flat_map (flying i s) fs))
      → Each (FliesSo S W s) fs
  flights_so s [] only = tt
  flights_so s (f ∷ fs) only =
      let P : Person = record { element = f.element; place = Teleporting s } in (
        λ there. sym (first_is (eqb f.person f.person) P (person_of f.person W) (flat_map (flying f.person s) fs)
            (eq-eqb f.person f.person refl)
            (only f.person there)),
        flights_so s fs (λ i there. only_behind (person_of i W) (if eqb f.person i then P ∷ [] else []) (flat_map (flying i s) fs)
            (only i there)),
      )

-- WHERE A PARCEL LEADS
module _ (S : Setup) (own : Owner) (p q s : ℕ) where
  abbrev Leads : Row → Type 0
  Leads r = leads S own p q r.link ≡ true

  move_leads : (m : Move) → Each Leads (enters_queue (leads S own p q) m)
  move_leads (Transfer a k n was now) =
      elim (cases_Bool (leads S own p q now.link && on now.link Queue now)) [
        | inl e ↦ rw e ((and_parts (leads S own p q now.link) (on now.link Queue now) e).0, tt)
        | inr e ↦ rw e tt
      ]
  move_leads _ = tt

  vehicles_lead : Each (λ (y : Passed). leads S own p q y.row.link ≡ true) (out S own p q s).vehicles
  unfolding out
  vehicles_lead =
      each_map Leads (λ (y : Passed). leads S own p q y.row.link ≡ true) (passed (world_at S s)) (λ r g. g) _
      (each_flat_all Leads (enters_queue (leads S own p q)) move_leads (node_phase_moves S s))

  -- a link on which somebody comes leads there
  link_leads : (i m : ℕ) (ys : List Passed) → Each (λ (y : Passed). leads S own p q y.row.link ≡ true) ys
      → 1 ≤ listed i (filter (λ (r : Row). eqb r.link m) (map row_of ys)) → leads S own p q m ≡ true
  link_leads i m [] h some = absurd (omega arith)
  link_leads i m (y ∷ ys) h some =
      elim (cases_Bool (eqb y.row.link m)) [
        | inl e ↦ ap (leads S own p q) (sym (eqb-true y.row.link m e)) ∙ h.0
        | inr e ↦
            let g : 1 ≤ listed i (filter (λ (r : Row). eqb r.link m) (map row_of ys)) = simp e at some in
            link_leads i m ys h.1 g
      ]

-- A PARCEL THAT IS NOT ABSORBED
module _ (S : Setup) (own : Owner) (parts p q s t : ℕ) (sound : IsSoundSetup S) (law : Lawful S) (arrivals : Arrivals S)
    (shares : IsOwner own parts) (n : near S own p q ≡ true) (before : s < t) (within : t ≤ s + lag S own p q) where
  abbrev W : World
  W = world_at S t

  abbrev late : ℕ
  late = lag S own p q

  module _ (i : ℕ) (lt : i < length S.persons) where
    other : eqb p q ≡ false
    other = near_other S own parts q s i law arrivals shares lt p n

    crossed_by : (l : ℕ) → leads S own p q l ≡ true → crosses S own l ≡ true
    crossed_by l e =
        let g = and_parts (eqb (begins_in S own l) p) (eqb (owner_of S own l) q) e in
        let bp = eqb-true (begins_in S own l) p g.0 in
        let oq = eqb-true (owner_of S own l) q g.1 in
        ap (λ x. not (eqb x (owner_of S own l))) bp ∙ ap (λ x. not (eqb p x)) oq ∙ ap not other

    lag_of : (l : ℕ) → leads S own p q l ≡ true → lag S own (begins_in S own l) (owner_of S own l) ≡ late
    lag_of l e =
        let g = and_parts (eqb (begins_in S own l) p) (eqb (owner_of S own l) q) e in
        let bp = eqb-true (begins_in S own l) p g.0 in
        let oq = eqb-true (owner_of S own l) q g.1 in
        ap (λ x. lag S own x (owner_of S own l)) bp ∙ ap (lag S own p) oq

    -- who is in it stays as he was when he went
    stays : carries i (out S own p q s) ≡ true → (u : ℕ) → s < u → u ≤ s + late
        → person_of i (world_at S u) ≡ person_of i (world_at S (suc s))
    stays c u after le =
        let d = u - suc s in
        let ud : suc (s + d) ≡ u = omega arith in
        let fs = flat_map (flight_from S own p q s (world_at S (suc s))) (below (length S.persons)) in
        elim (or_either (rides_in i (parcel_rows S own p q s)) (list_any (is_his i) fs) (sym (carries_is S own p q s i) ∙ c)) [
          | inl y ↦
              let some = ltb-true 0 (listed i (parcel_rows S own p q s)) y in
              let f = find_lead S own p q (listed i) (by_rows i) refl (node_phase_moves S s) (omega arith) in
              let l = f.0 in
              let came1 : 1 ≤ listed i (came S l s) = f.1.1 in
              let j = lag_of l f.1.0 in
              ap (λ (x : ℕ). person_of i (world_at S x)) (sym ud)
              ∙ carried S own i l law lt (crossed_by l f.1.0) s d (omega arith) came1
          | inr y ↦
              let h = from_flights S own p q s i (below (length S.persons)) y in
              let N = person_of i (world_at S (suc s)) in
              let fp = eqb-true (flies_from S own i N.element) p h.1 in
              let now : N ≡ record { element = N.element; place = Teleporting s } = λ k. record { element = N.element; place = h.0 k } in
              ap (λ (x : ℕ). person_of i (world_at S x)) (sym ud)
              ∙ flown S own q p i s N.element law lt other fp h.2 d (omega arith) now ∙ sym now
        ]

    -- and each row that it brings is his
    only : Only (person_of i W) (person_in i s (Some (out S own p q s)))
    only =
        let xs = person_in i s (Some (out S own p q s)) in
        let some_lag = lag-some S own law.long p q in
        elim (cases_lt 0 (length xs)) [
          | inl some ↦
              let c = is_in i s (out S own p q s) (omega arith) in
              let same : person_of i (world_at S (s + late)) ≡ person_of i W
              = stays c (s + late) (omega arith) (omega arith) ∙ sym (stays c t before within) in
              subst (λ (P : Person). Only P xs) same (parcel_brings S own q p i s law arrivals lt other).0
          | inr none ↦ only_none (person_of i W) xs (omega arith)
        ]

    -- he rides on the link that he entered
    link_is : (m : ℕ) (v : VehicleId) → (person_of i W).place ≡ Riding v
        → 1 ≤ listed i (filter (λ (r : Row). eqb r.link m) (map row_of (out S own p q s).vehicles)) → link_of_vehicle v W.rows ≡ m
    link_is m v e some =
        let ld = link_leads S own p q s i m (out S own p q s).vehicles (vehicles_lead S own p q s) some in
        let c = crossed_by m ld in
        let j = lag_of m ld in
        let le = lag-down S own m c in
        let rows : listed i (filter (λ (r : Row). eqb r.link m) (map row_of (out S own p q s).vehicles)) ≡ listed i (came S m s)
        = ap (listed i) (out-rows S own p q m s ld) in
        let last = in_last S m s (listed i) (by_rows i) t late before within in
        let a = ap (listed i) (known_tail S m t late (in_range S own m c) (omega arith))
        ∙ listed-append i (known S t late m) (came_last S m t late) in
        let here : 1 ≤ listed i (at m Queue W) = omega arith in
        rider_link S t i v sound lt e
        ∙ listed_home S W m Queue i (person_of i W).element (Riding v) (subst (IsListed i W.rows) e (listed_in_one S t i lt)) here

  pub still_so : IsStillSo S W s (out S own p q s)
  still_so =
      let x = out S own p q s in
      record {
        riders =
            vehicles_so S W x.vehicles
            (λ i lt. only_front (person_of i W) (flat_map (brought i) x.vehicles) (flat_map (flying i s) x.flights) (only i lt))
            (λ i m v lt e some. link_is i lt m v e some);
        flights =
            flights_so S W s x.flights
            (λ i lt. only_behind (person_of i W) (flat_map (brought i) x.vehicles) (flat_map (flying i s) x.flights) (only i lt));
      }
