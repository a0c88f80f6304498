-- Who is among the strays of a partition, and that they are where the day has them.
use Rattle.traffic.proofs.Common.{◌≡◌, ◌≢◌, ℕ, zero, suc, ◌+◌, ◌<◌, ◌≤◌, Bool, true, false, List, [], ◌∷◌, ◌∙◌, ap, refl, sym, arith, inl, inr, cases_Bool}
use Rattle.traffic.proofs.Common.{cases_lt, true≢false, leb-true, nat_tests, lt-ltb, ltb-true, eqb, eqb-true, eqb-false, length, map, filter, flat_map}
use Rattle.traffic.proofs.Common.{list_any, if◌then◌else◌, sum_by-cons, numbers, below, nat_le, ◌||◌, VehicleId, Setup, World, person_of, world_at}
use Rattle.traffic.proofs.{Common.link_of_vehicle, Common.listed, Each.each_append, Each.each_flat, Each.each_map}
use Rattle.traffic.specs.declared.{riders.Rider.Rider, world.Place.TheVariants.Riding, world.Row.Row}
use Rattle.std.specs.List.{AllByRecursion as Each}
use Rattle.law_one_place.proofs.{Boarding.one_rider, Places.among_riders, Places.rides}
use Rattle.parts.specs.Owners.{Owner, near, lag, leads}
use Rattle.parts.specs.Parts.{Passed, Flight, Parcel as Sent, passed, rides_in, enters_queue, node_phase_moves, flight_from, out, carries}
use Rattle.law_partitions.proofs.{Enders.or_true, Enders.or_either, Tells.listed-cons, Whole.near-both, Whole.near_part}
use Rattle.law_partitions.specs.Laws.{IsOwner}
use Rattle.law_last_parcels.specs.Last.{RideSo, FliesSo, IsStillSo, LastAreSo, IsSent}
use Rattle.law_last_parcels.proofs.Some.{any_front, any_behind, front_or_behind}
use Rattle.step_core.specs.declared.part.Border.{Border}
use Rattle.divided_day.specs.Borders.{border_from, borders_of}
use Rattle.part_seconds.proofs.Lists.{flat_of_map}
use Rattle.parted_day.{proofs.Kept.each_near, proofs.Tabled.is_stray, specs.Strays.stray_riders, specs.Strays.passed_strays, specs.Strays.flight_stray}
use Rattle.parted_day.specs.{Strays.strays_in, Strays.comes_too_late, Strays.strays_to, Strays.strays_over, Strays.strays_before, declared.straying.Stray.Stray}

-- WHERE THEY ARE
-- a stray is in world W in the state in which he was sent, and on that link if he rides
pub record IsRight (S : Setup) (W : World) (x : Stray) : Type 0 where
  pub state : x.person < length S.persons → person_of x.person W ≡ x.state
  pub link : x.person < length S.persons → (v : VehicleId) → x.state.place ≡ Riding v → x.link ≡ link_of_vehicle v W.rows

riders_right : (S : Setup) (W : World) (l : ℕ) (v : VehicleId) (rs : List Rider) (es : List ℕ) → RideSo S W l v rs es
    → Each (IsRight S W) (stray_riders l v rs es)
riders_right S W l v [] es h = tt
riders_right S W l v (r ∷ rs) [] h = tt
riders_right S W l v (r ∷ rs) (e ∷ es) h = (
  record {
    state = λ lt. (h.0 lt).state;
    link = λ lt u q. (
        let same : v ≡ u = cc in
        sym (h.0 lt).link ∙ ap (λ (w : VehicleId). link_of_vehicle w W.rows) same);
  },
  riders_right S W l v rs es h.1,
)

pub parcel_right : (S : Setup) (W : World) (s : ℕ) (x : Sent) → IsStillSo S W s x → Each (IsRight S W) (strays_in s x)
parcel_right S W s x h =
    each_append (IsRight S W) (flat_map passed_strays x.vehicles) (map (flight_stray s) x.flights)
    (each_flat (λ (y : Passed). RideSo S W y.row.link y.row.vehicle.id y.row.vehicle.riders y.elements) (IsRight S W) passed_strays
    (λ y g. riders_right S W y.row.link y.row.vehicle.id y.row.vehicle.riders y.elements g) x.vehicles h.riders)
    (each_map (FliesSo S W s) (IsRight S W) (flight_stray s)
    (λ f g. record { state = g; link = λ lt u q. absurd (cc) }) x.flights h.flights)

module _ (S : Setup) (own : Owner) (parts p : ℕ) where
  abbrev end : ℕ
  end = S.settings.end_second

  -- those of each second before the end
  pub all_right : LastAreSo S own p end → (t : ℕ) → t ≤ end → Each (IsRight S (world_at S end)) (strays_before S own parts p t)
  unfolding strays_before
  all_right last zero le = tt
  all_right last (suc t) le =
      let W = world_at S end in
      let borders = borders_of S own parts p in
      let one : (b : Border) → near S own p b.neighbour ≡ true → Each (IsRight S W) (strays_to S own p t b.neighbour)
      = λ b n. elim (cases_Bool (comes_too_late S own p b.neighbour t)) [
        | inl e ↦
            rw e (parcel_right S W t (out S own p b.neighbour t)
            (last b.neighbour t n (omega arith) (leb-true end (t + lag S own p b.neighbour) e)))
        | inr e ↦ rw e tt
      ] in
      each_append (IsRight S W) (strays_before S own parts p t) (strays_over S own p t borders)
      (all_right last t (omega arith))
      (each_flat (λ (b : Border). near S own p b.neighbour ≡ true) (IsRight S W) (λ (b : Border). strays_to S own p t b.neighbour) one
      borders
      (each_near S own parts p))

-- WHO IS AMONG THEM
riders_among : (i l : ℕ) (v : VehicleId) (rs : List Rider) (es : List ℕ) → is_stray i (stray_riders l v rs es) ≡ true
    → 1 ≤ among_riders i rs
riders_among i l v [] es e = absurd (true≢false (sym e))
riders_among i l v (r ∷ rs) [] e = absurd (true≢false (sym e))
riders_among i l v (r ∷ rs) (x ∷ es) e =
    let c = sum_by-cons (one_rider i) r rs in
    elim (cases_Bool (eqb r.person i)) [
      | inl y ↦
          let d : among_riders i (r ∷ rs) ≡ 1 + among_riders i rs = c ∙ ap (λ (b : Bool). (if b then 1 else 0) + among_riders i rs) y in
          omega arith
      | inr y ↦
          let h : is_stray i (stray_riders l v rs es) ≡ true = simp y at e in
          let more = riders_among i l v rs es h in
          omega arith
    ]

among_all : (i l : ℕ) (v : VehicleId) (g : Rider → ℕ) (rs : List Rider) → 1 ≤ among_riders i rs
    → is_stray i (stray_riders l v rs (map g rs)) ≡ true
among_all i l v g [] h = absurd (omega arith)
among_all i l v g (r ∷ rs) h =
    let c = sum_by-cons (one_rider i) r rs in
    elim (cases_Bool (eqb r.person i)) [
      | inl y ↦ rw y refl
      | inr y ↦
          let d : among_riders i (r ∷ rs) ≡ 0 + among_riders i rs = c ∙ ap (λ (b : Bool). (if b then 1 else 0) + among_riders i rs) y in
          rw y (among_all i l v g rs (omega arith))
    ]

abbrev row_of : Passed → Row
row_of y = y.row

vehicles_among : (i : ℕ) (ys : List Passed) → is_stray i (flat_map passed_strays ys) ≡ true → 1 ≤ listed i (map row_of ys)
vehicles_among i [] e = absurd (true≢false (sym e))
vehicles_among i (y ∷ ys) e =
    let c = listed-cons i y.row (map row_of ys) in
    elim (front_or_behind (λ (x : Stray). eqb x.person i) (passed_strays y) (flat_map passed_strays ys) e) [
      | inl h ↦ let some = riders_among i y.row.link y.row.vehicle.id y.row.vehicle.riders y.elements h in omega arith
      | inr h ↦ let some = vehicles_among i ys h in omega arith
    ]

among_vehicles : (i : ℕ) (W : World) (rows : List Row) → 1 ≤ listed i rows
    → is_stray i (flat_map passed_strays (map (passed W) rows)) ≡ true
among_vehicles i W [] h = absurd (omega arith)
among_vehicles i W (r ∷ rs) h =
    let c = listed-cons i r rs in
    let test : Stray → Bool = λ x. eqb x.person i in
    let here = passed_strays (passed W r) in
    let later = flat_map passed_strays (map (passed W) rs) in
    elim (cases_lt 0 (rides i r.vehicle)) [
      | inl lt ↦
          any_front test here later
          (among_all i r.link r.vehicle.id (λ (x : Rider). (person_of x.person W).element) r.vehicle.riders (omega arith))
      | inr ge ↦ any_behind test here later (among_vehicles i W rs (omega arith))
    ]

flights_same : (i s : ℕ) (fs : List Flight) → is_stray i (map (flight_stray s) fs) ≡ list_any (λ (f : Flight). eqb f.person i) fs
flights_same i s [] = refl
flights_same i s (f ∷ fs) = ap (λ (b : Bool). eqb f.person i || b) (flights_same i s fs)

stray_carried : (i s : ℕ) (x : Sent) → is_stray i (strays_in s x) ≡ true → carries i x ≡ true
stray_carried i s x e =
    let rows = map row_of x.vehicles in
    elim (front_or_behind (λ (y : Stray). eqb y.person i) (flat_map passed_strays x.vehicles) (map (flight_stray s) x.flights) e) [
      | inl h ↦ let y : rides_in i rows ≡ true = lt-ltb 0 (listed i rows) (vehicles_among i x.vehicles h) in rw y refl
      | inr h ↦ ap (λ (b : Bool). rides_in i rows || b) (sym (flights_same i s x.flights) ∙ h) ∙ or_true (rides_in i rows)
    ]

rows_back : (W : World) (rows : List Row) → map row_of (map (passed W) rows) ≡ rows
rows_back W [] = refl
rows_back W (r ∷ rs) = ap (λ (xs : List Row). r ∷ xs) (rows_back W rs)

carried_stray : (S : Setup) (own : Owner) (p q s i : ℕ) → carries i (out S own p q s) ≡ true
    → is_stray i (strays_in s (out S own p q s)) ≡ true
unfolding out
carried_stray S own p q s i e =
    let W = world_at S s in
    let rows = flat_map (enters_queue (leads S own p q)) (node_phase_moves S s) in
    let fs = flat_map (flight_from S own p q s (world_at S (suc s))) (below (length S.persons)) in
    let test : Stray → Bool = λ x. eqb x.person i in
    let riders = flat_map passed_strays (map (passed W) rows) in
    let flights = map (flight_stray s) fs in
    elim (or_either (rides_in i (map row_of (map (passed W) rows))) (list_any (λ (f : Flight). eqb f.person i) fs) e) [
      | inl y ↦
          let some = ltb-true 0 (listed i (map row_of (map (passed W) rows))) y in
          let same = ap (listed i) (rows_back W rows) in
          any_front test riders flights (among_vehicles i W rows (omega arith))
      | inr y ↦ any_behind test riders flights (flights_same i s fs ∙ y)
    ]

-- to one of these neighbours
some_over : (S : Setup) (own : Owner) (p s i : ℕ) (bs : List Border) → Each (λ (b : Border). near S own p b.neighbour ≡ true) bs
    → is_stray i (strays_over S own p s bs) ≡ true
    → (q : ℕ) × ((near S own p q ≡ true) × (is_stray i (strays_to S own p s q) ≡ true))
some_over S own p s i [] h e = absurd (true≢false (sym e))
some_over S own p s i (b ∷ bs) h e =
    elim (front_or_behind (λ (x : Stray). eqb x.person i) (strays_to S own p s b.neighbour) (strays_over S own p s bs) e) [
      | inl y ↦ (b.neighbour, (h.0, y))
      | inr y ↦ some_over S own p s i bs h.1 y
    ]

among_some : (i : ℕ) (f : ℕ → List Stray) (pass : ℕ → Bool) (q k c : ℕ) → k ≤ q → q < k + c → pass q ≡ true → is_stray i (f q) ≡ true
    → is_stray i (flat_map f (filter pass (numbers k c))) ≡ true
among_some i f pass q k zero low high e some = absurd (omega arith)
among_some i f pass q k (suc c) low high e some =
    let test : Stray → Bool = λ x. eqb x.person i in
    let rest = flat_map f (filter pass (numbers (k + 1) c)) in
    elim (cases_Bool (eqb k q)) [
      | inl y ↦
          let same : k ≡ q = eqb-true k q y in
          let here : pass k ≡ true = ap pass same ∙ e in
          let his : is_stray i (f k) ≡ true = ap (λ (x : ℕ). is_stray i (f x)) same ∙ some in
          rw here (any_front test (f k) rest his)
      | inr y ↦
          let ne : k ≢ q = eqb-false k q y in
          let later = among_some i f pass q (k + 1) c (omega arith) (omega arith) e some in
          elim (cases_Bool (pass k)) [
            | inl z ↦ rw z (any_behind test (f k) rest later)
            | inr z ↦ rw z later
          ]
    ]

module _ (S : Setup) (own : Owner) (parts p i : ℕ) where
  abbrev ending : ℕ
  ending = S.settings.end_second

  -- whoever is among the strays is in a parcel that comes too late
  sent_before : (t : ℕ) → t ≤ ending → is_stray i (strays_before S own parts p t) ≡ true → IsSent S own p i
  unfolding strays_before
  sent_before zero le e = absurd (true≢false (sym e))
  sent_before (suc t) le e =
      let borders = borders_of S own parts p in
      elim (front_or_behind (λ (x : Stray). eqb x.person i) (strays_before S own parts p t) (strays_over S own p t borders) e) [
        | inl y ↦ sent_before t (omega arith) y
        | inr y ↦
            let o = some_over S own p t i borders (each_near S own parts p) y in
            let q = o.0 in
            elim (cases_Bool (comes_too_late S own p q t)) [
              | inl z ↦
                  let here : is_stray i (strays_in t (out S own p q t)) ≡ true = simp z at o.1.1 in
                  record {
                    receiver = q;
                    second = t;
                    near_by = o.1.0;
                    before = omega arith;
                    late = leb-true ending (t + lag S own p q) z;
                    in_it = stray_carried i t (out S own p q t) here;
                  }
              | inr z ↦ let none : false ≡ true = simp z at o.1.1 in absurd (true≢false (sym none))
            ]
      ]

  pub stray_sent : is_stray i (strays_before S own parts p ending) ≡ true → IsSent S own p i
  stray_sent e = sent_before ending (omega arith) e

  -- and whoever is in one is among them
  among_before : (s : ℕ) → is_stray i (strays_over S own p s (borders_of S own parts p)) ≡ true → (t : ℕ) → s < t
      → is_stray i (strays_before S own parts p t) ≡ true
  unfolding strays_before
  among_before s e zero lt = absurd (omega arith)
  among_before s e (suc t) lt =
      let test : Stray → Bool = λ x. eqb x.person i in
      let before = strays_before S own parts p t in
      let over = strays_over S own p t (borders_of S own parts p) in
      elim (cases_Bool (eqb s t)) [
        | inl y ↦
            any_behind test before over
            (ap (λ (x : ℕ). is_stray i (strays_over S own p x (borders_of S own parts p))) (sym (eqb-true s t y)) ∙ e)
        | inr y ↦ let ne : s ≢ t = eqb-false s t y in any_front test before over (among_before s e t (omega arith))
      ]

  pub sent_stray : IsOwner own parts → IsSent S own p i → is_stray i (strays_before S own parts p ending) ≡ true
  sent_stray shares x =
      let q = x.receiver in
      let s = x.second in
      let late = x.late in
      let n : near S own q p ≡ true = sym (near-both S own p q) ∙ x.near_by in
      let there : q < parts = near_part S own parts q p shares n in
      let test : nat_le ending (s + lag S own p q) ≡ true = grind (arith, nat_tests) in
      let one : is_stray i (strays_to S own p s q) ≡ true = rw test (carried_stray S own p q s i x.in_it) in
      let all : is_stray i (strays_over S own p s (borders_of S own parts p)) ≡ true
      = ap (is_stray i) (flat_of_map (border_from S own p) (λ (b : Border). strays_to S own p s b.neighbour)
      (filter (λ (x : ℕ). near S own x p) (below parts)))
      ∙ among_some i (strays_to S own p s) (λ (x : ℕ). near S own x p) q 0 parts (omega arith) (omega arith) n one in
      among_before s all ending x.before
