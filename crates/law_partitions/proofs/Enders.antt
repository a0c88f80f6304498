-- At each second a person is in exactly one part, or in a parcel that is not absorbed.
use Rattle.traffic.proofs.Common.{◌≡◌, ℕ, List, ◌∙◌, length, ap, refl, sym, [], ◌∷◌, arith, ◌<◌, true, ◌++◌, ◌+◌, Bool, inl, inr, subst, ◌≤◌, false, suc, eqb}
use Rattle.traffic.proofs.Common.{zero, ◌-◌, ◌≢◌, ◌⊎◌, cases_Bool, eqb-true, and_parts, cases_lt, eq-eqb, eqb-false, true≢false, ltb-true, lt-ltb, leb-true}
use Rattle.traffic.proofs.Common.{nat_tests, flat_map, list_any, map, filter, not, ◌&&◌, if◌then◌else◌, nat_le, ◌||◌, world_at, day, below, numbers, World}
use Rattle.traffic.proofs.Common.{person_of, at, on, Setup, act_after, link_row, seconds_of, listed, IsListed}
use Rattle.traffic.specs.declared.{stage.Stage.TheVariants.Queue, world.Person.Person, world.Place.Place, world.Place.TheVariants.At}
use Rattle.traffic.specs.declared.world.{Place.TheVariants.Teleporting, Place.TheVariants.Waiting, Place.TheVariants.Riding, Place.TheVariants.Aborted, Row.Row}
use Rattle.std.specs.Prelude.{is_some}
use Rattle.parts.specs.Merge.{Merges}
use Rattle.parts.specs.Owners.{Owner, owner_of, begins_in, crosses, leads, owner_of_person, owner_of_turn, link_at, lag, near, links_of}
use Rattle.parts.specs.Parts.{Passed, Flight, Parcel, passed, mine, came, came_last, down, late_rows, all_late, rides_in, is_late, has, flies_from, flight_at}
use Rattle.parts.specs.Parts.{flight_from, enters_queue, node_phase_moves, out, unheard, held, sent_last, carries}
use Rattle.law_partitions.proofs.Absorbed.{find_pass, near_other, fly_way, flown_back}
use Rattle.law_partitions.proofs.{Absorbing.find_lead, Calms.listed_in_one, Carried.in_last, Carried.by_rows, Carried.flown, Flights.flights_began}
use Rattle.law_partitions.proofs.{Heard.known_and, History.known, History.came_none, Home.Lawful, Home.has-is, Joined.only_all, Joined.near-down}
use Rattle.law_partitions.proofs.{Joined.any_number, Lags.lag-down, Lags.in_range, Lags.near-hop, Listing.listed-filter, Listing.listed_home, Merging.all_told}
use Rattle.law_partitions.proofs.{Merging.Shared, Merging.day_merged, Owning.Arrivals, Owning.all_some, Tells.listed-append}

pub or_true : (x : Bool) → (x || true) ≡ true
or_true true = refl
or_true false = refl

or_false : (x : Bool) → (x || false) ≡ x
or_false true = refl
or_false false = refl

or_assoc : (x y z : Bool) → (x || (y || z)) ≡ ((x || y) || z)
or_assoc true y z = refl
or_assoc false y z = refl

pub or_either : (x y : Bool) → (x || y) ≡ true → (x ≡ true) ⊎ (y ≡ true)
or_either true y e = inl refl
or_either false y e = inr e

any_append : {X : Type 0} (pass : X → Bool) (xs ys : List X) → list_any pass (xs ++ ys) ≡ (list_any pass xs || list_any pass ys)
any_append pass [] ys = refl
any_append pass (x ∷ xs) ys = ap (λ b. pass x || b) (any_append pass xs ys) ∙ or_assoc (pass x) (list_any pass xs) (list_any pass ys)

any_find : {X : Type 0} (f : X → Bool) (xs : List X) → list_any f xs ≡ true → (x : X) × (f x ≡ true)
any_find f [] e = absurd (true≢false (sym e))
any_find f (x ∷ xs) e = elim (cases_Bool (f x)) [ inl y ↦ (x, y) | inr y ↦ any_find f xs (let z = simp y at e in z) ]

pub some_mine : (b : Bool) (P : Person) → is_some (mine b P) ≡ b
some_mine true P = refl
some_mine false P = refl

if_less : (b : Bool) (x y n : ℕ) → x < n → y < n → (if b then x else y) < n
if_less true x y n h g = h
if_less false x y n h g = g

-- PARCELS OF THE LAST SECONDS
any_sent : (S : Setup) (own : Owner) (p q s : ℕ) (f : Parcel → Bool) → f (out S own p q s) ≡ true → (t k : ℕ) → s < t → t ≤ s + k → list_any f (sent_last S own p q t k) ≡ true
unfolding sent_last
any_sent S own p q s f e zero k h g = absurd (omega arith)
any_sent S own p q s f e (suc t) zero h g = absurd (omega arith)
any_sent S own p q s f e (suc t) (suc k) h g =
    any_append f (sent_last S own p q t k) (out S own p q t ∷ [])
    ∙ elim (cases_Bool (eqb s t)) [
      | inl y ↦ let z : f (out S own p q t) ≡ true = ap (λ (x : ℕ). f (out S own p q x)) (sym (eqb-true s t y)) ∙ e in (rw z (or_true (list_any f (sent_last S own p q t k))))
      | inr y ↦ let d : s ≢ t = eqb-false s t y in let z = any_sent S own p q s f e t k (omega arith) (omega arith) in (rw z refl)
    ]

find_sent : (S : Setup) (own : Owner) (p q : ℕ) (f : Parcel → Bool) (t k : ℕ) → list_any f (sent_last S own p q t k) ≡ true → (s : ℕ) × ((s < t) × (t ≤ s + k) × (f (out S own p q s) ≡ true))
unfolding sent_last
find_sent S own p q f zero k e = absurd (true≢false (sym e))
find_sent S own p q f (suc t) zero e = absurd (true≢false (sym e))
find_sent S own p q f (suc t) (suc k) e =
    elim (or_either (list_any f (sent_last S own p q t k)) (list_any f (out S own p q t ∷ [])) (sym (any_append f (sent_last S own p q t k) (out S own p q t ∷ [])) ∙ e)) [
      | inl y ↦ let r = find_sent S own p q f t k y in let a = r.1.0 in let b = r.1.1 in (r.0, (omega arith, omega arith, r.1.2))
      | inr y ↦ (t, (omega arith, omega arith, sym (or_false (f (out S own p q t))) ∙ y))
    ]

find_came : (S : Setup) (l i : ℕ) (t k : ℕ) → 1 ≤ listed i (came_last S l t k) → (s : ℕ) × ((s < t) × (t ≤ s + k) × (1 ≤ listed i (came S l s)))
unfolding came_last
find_came S l i zero k h = absurd (omega arith)
find_came S l i (suc t) zero h = absurd (omega arith)
find_came S l i (suc t) (suc k) h =
    let a = listed-append i (came_last S l t k) (came S l t) in
    elim (cases_lt 0 (listed i (came S l t))) [
      | inl lt ↦ (t, (omega arith, omega arith, omega arith))
      | inr ge ↦ let r = find_came S l i t k (omega arith) in let x = r.1.0 in let y = r.1.1 in (r.0, (omega arith, omega arith, r.1.2))
    ]

-- the flights of a person in a parcel
abbrev pub is_his : ℕ → Flight → Bool
is_his i f = eqb f.person i

abbrev pub HisFlight : Setup → Owner → ℕ → ℕ → ℕ → ℕ → Type 0
HisFlight S own p q s i =
    let N = person_of i (world_at S (suc s)) in
    (N.place ≡ Teleporting s) × (eqb (flies_from S own i N.element) p ≡ true) × (eqb (owner_of S own (act_after S i N.element).link) q ≡ true)

at_flight : (S : Setup) (own : Owner) (p q s i j : ℕ) (pl : Place) → (person_of j (world_at S (suc s))).place ≡ pl → eqb (flies_from S own j (person_of j (world_at S (suc s))).element) p ≡ true →
    eqb (owner_of S own (link_at S (world_at S (suc s)) j (person_of j (world_at S (suc s))).element pl)) q ≡ true → list_any (is_his i) (flight_at S s j (person_of j (world_at S (suc s))).element pl) ≡ true → HisFlight S own p q s i
at_flight S own p q s i j (Teleporting start) e from to any =
    elim (cases_Bool (eqb start s)) [
      | inl g ↦
          let st = eqb-true start s g in
          let any2 : (eqb j i || false) ≡ true = simp g at any in
          let ji = eqb-true j i (sym (or_false (eqb j i)) ∙ any2) in
          let e2 : (person_of j (world_at S (suc s))).place ≡ Teleporting s = e ∙ ap (λ (x : ℕ). Teleporting x) st in
          subst (λ (x : ℕ). let N = person_of x (world_at S (suc s)) in (N.place ≡ Teleporting s) × (eqb (flies_from S own x N.element) p ≡ true) × (eqb (owner_of S own (act_after S x N.element).link) q ≡ true)) ji (e2, from, to)
      | inr g ↦ let any2 : false ≡ true = simp g at any in absurd (true≢false (sym any2))
    ]
at_flight S own p q s i j (At end) e from to any = absurd (true≢false (sym any))
at_flight S own p q s i j (Waiting stop since) e from to any = absurd (true≢false (sym any))
at_flight S own p q s i j (Riding v) e from to any = absurd (true≢false (sym any))
at_flight S own p q s i j (Aborted l) e from to any = absurd (true≢false (sym any))

from_flight : (S : Setup) (own : Owner) (p q s i j : ℕ) → list_any (is_his i) (flight_from S own p q s (world_at S (suc s)) j) ≡ true → HisFlight S own p q s i
from_flight S own p q s i j any =
    let N = person_of j (world_at S (suc s)) in
    let c1 = eqb (flies_from S own j N.element) p in
    let c2 = eqb (owner_of_person S own (world_at S (suc s)) j) q in
    elim (cases_Bool (c1 && c2)) [
      | inl z ↦ let g = and_parts c1 c2 z in let any2 : list_any (is_his i) (flight_at S s j N.element N.place) ≡ true = simp z at any in at_flight S own p q s i j N.place refl g.0 g.1 any2
      | inr z ↦ let any2 : false ≡ true = simp z at any in absurd (true≢false (sym any2))
    ]

pub from_flights : (S : Setup) (own : Owner) (p q s i : ℕ) (ns : List ℕ) → list_any (is_his i) (flat_map (flight_from S own p q s (world_at S (suc s))) ns) ≡ true → HisFlight S own p q s i
from_flights S own p q s i [] any = absurd (true≢false (sym any))
from_flights S own p q s i (n ∷ ns) any =
    let f = flight_from S own p q s (world_at S (suc s)) in
    elim (or_either (list_any (is_his i) (f n)) (list_any (is_his i) (flat_map f ns)) (sym (any_append (is_his i) (f n) (flat_map f ns)) ∙ any)) [
      | inl y ↦ from_flight S own p q s i n y
      | inr y ↦ from_flights S own p q s i ns y
    ]

pub to_flights : (S : Setup) (own : Owner) (p q s i k c : ℕ) → k ≤ i → i < k + c → HisFlight S own p q s i → list_any (is_his i) (flat_map (flight_from S own p q s (world_at S (suc s))) (numbers k c)) ≡ true
to_flights S own p q s i k zero a b h = absurd (omega arith)
to_flights S own p q s i k (suc c) a b h =
    let f = flight_from S own p q s (world_at S (suc s)) in
    let N = person_of i (world_at S (suc s)) in
    any_append (is_his i) (f k) (flat_map f (numbers (k + 1) c))
    ∙ elim (cases_Bool (eqb k i)) [
      | inl y ↦
          let c1 = h.1 in
          let c2 : eqb (owner_of_person S own (world_at S (suc s)) i) q ≡ true = ap (λ (pl : Place). eqb (owner_of S own (link_at S (world_at S (suc s)) i N.element pl)) q) h.0 ∙ h.2 in
          let one : f i ≡ flight_at S s i N.element (Teleporting s) = (rw (c1, c2) (ap (flight_at S s i N.element) h.0)) in
          let ss = eq-eqb s s refl in
          let ii = eq-eqb i i refl in
          let any : list_any (is_his i) (f i) ≡ true = ap (list_any (is_his i)) one ∙ (rw ss (rw ii refl)) in
          let z : list_any (is_his i) (f k) ≡ true = ap (λ (x : ℕ). list_any (is_his i) (f x)) (eqb-true k i y) ∙ any in (rw z refl)
      | inr y ↦ let d : k ≢ i = eqb-false k i y in let z = to_flights S own p q s i (k + 1) c (omega arith) (omega arith) h in (rw z (or_true (list_any (is_his i) (f k))))
    ]

rows_of_passed : (W : World) (rows : List Row) → map (λ (y : Passed). y.row) (map (passed W) rows) ≡ rows
rows_of_passed W [] = refl
rows_of_passed W (r ∷ rs) = ap (λ xs. r ∷ xs) (rows_of_passed W rs)

abbrev pub parcel_rows : Setup → Owner → ℕ → ℕ → ℕ → List Row
parcel_rows S own p q s = flat_map (enters_queue (leads S own p q)) (node_phase_moves S s)

pub carries_is : (S : Setup) (own : Owner) (p q s i : ℕ) → carries i (out S own p q s) ≡ (rides_in i (parcel_rows S own p q s) || list_any (is_his i) (flat_map (flight_from S own p q s (world_at S (suc s))) (below (length S.persons))))
unfolding out
carries_is S own p q s i = ap (λ rows. rides_in i rows || list_any (is_his i) (flat_map (flight_from S own p q s (world_at S (suc s))) (below (length S.persons)))) (rows_of_passed (world_at S s) (parcel_rows S own p q s))

-- WHO SENT HIM
abbrev sender : Setup → Owner → ℕ → ℕ → ℕ → Place → ℕ
sender S own t i e (Riding v) = begins_in S own (link_at S (world_at S t) i e (Riding v))
sender S own t i e (Teleporting start) = flies_from S own i e
sender S own t i e pl = owner_of S own (link_at S (world_at S t) i e pl)

sender_less : (S : Setup) (own : Owner) (parts t i e : ℕ) (pl : Place) → ((n : ℕ) → own n < parts) → sender S own t i e pl < parts
sender_less S own parts t i e (Riding v) h = h _
sender_less S own parts t i e (Teleporting start) h = h _
sender_less S own parts t i e (At end) h = h _
sender_less S own parts t i e (Waiting stop since) h = h _
sender_less S own parts t i e (Aborted l) h = h _

abbrev pub ender_at : Setup → Owner → ℕ → ℕ → ℕ
ender_at S own t i =
    let P = person_of i (world_at S t) in
    let o = owner_of_person S own (world_at S t) i in
    if is_late S own (lag S own) o t i P.element P.place then sender S own t i P.element P.place else o

module _ (S : Setup) (own : Owner) (parts t i : ℕ) (law : Lawful S) (arrivals : Arrivals S) (shares : (n : ℕ) → own n < parts) (lt : i < length S.persons) where
  abbrev W : World
  W = world_at S t

  abbrev P : Person
  P = person_of i W

  abbrev o : ℕ
  o = owner_of_person S own W i

  abbrev late : ℕ → Bool
  late q = is_late S own (lag S own) q t i P.element P.place

  abbrev sent_by : ℕ
  sent_by = sender S own t i P.element P.place

  not_true : (x : Bool) → not x ≡ true → x ≡ false
  not_true true e = absurd (true≢false (sym e))
  not_true false e = refl

  lag_row : (l : ℕ) → crosses S own l ≡ true → late_rows S own (lag S own) t l ≡ came_last S l t (lag S own (begins_in S own l) (owner_of S own l))
  lag_row l c = (rw c refl)

  in_queue : (l : ℕ) → crosses S own l ≡ true → listed i (late_rows S own (lag S own) t l) ≤ listed i (at l Queue W)
  in_queue l c =
      let le : down S own (lag S own) l ≤ seconds_of S l = (rw c (lag-down S own l c)) in
      let e = ap (listed i) (known_and S own (lag S own) l t le) ∙ listed-append i (known S t (down S own (lag S own) l) l) (late_rows S own (lag S own) t l) in omega arith

  no_ride : (l : ℕ) → crosses S own l ≡ true → 1 ≤ listed i (late_rows S own (lag S own) t l) → listed i W.rows ≡ 0 → ⊥
  no_ride l c some none = let q = in_queue l c in let le = listed-filter i (on l Queue) W.rows in absurd (omega arith)

  -- who rides in late rows of a link is late there, and was sent by its begin
  ride_late : (l : ℕ) (pl : Place) → P.place ≡ pl → crosses S own l ≡ true → 1 ≤ listed i (late_rows S own (lag S own) t l) →
      (owner_of S own (link_at S W i P.element pl) ≡ owner_of S own l) × (is_late S own (lag S own) (owner_of S own l) t i P.element pl ≡ true) × (sender S own t i P.element pl ≡ begins_in S own l)
  ride_late l (Riding v) e c some =
      let q = in_queue l c in
      let h : link_at S W i P.element (Riding v) ≡ l = listed_home S W l Queue i P.element (Riding v) (subst (λ pl. IsListed i W.rows pl) e (listed_in_one S t i lt)) (omega arith) in
      let inside = in_range S own l c in
      let le = all_some i (late_rows S own (lag S own) t) (λ a. eqb (owner_of S own a) (owner_of S own l)) l 0 (length S.links) (omega arith) (omega arith) (eq-eqb (owner_of S own l) (owner_of S own l) refl) in
      (ap (owner_of S own) h, lt-ltb 0 (listed i (all_late S own (lag S own) (owner_of S own l) t)) (omega arith), ap (begins_in S own) h)
  ride_late l (At end) e c some = absurd (no_ride l c some (subst (λ pl. IsListed i W.rows pl) e (listed_in_one S t i lt)))
  ride_late l (Teleporting start) e c some = absurd (no_ride l c some (subst (λ pl. IsListed i W.rows pl) e (listed_in_one S t i lt)))
  ride_late l (Waiting stop since) e c some = absurd (no_ride l c some (subst (λ pl. IsListed i W.rows pl) e (listed_in_one S t i lt)))
  ride_late l (Aborted a) e c some = absurd (no_ride l c some (subst (λ pl. IsListed i W.rows pl) e (listed_in_one S t i lt)))

  -- whom a parcel that is not absorbed carries, he is late for its receiver
  pub carried_late : (p q s : ℕ) → near S own p q ≡ true → s < t → t ≤ s + lag S own p q → carries i (out S own p q s) ≡ true → (o ≡ q) × (late q ≡ true) × (sent_by ≡ p)
  carried_late p q s n before within c =
      let other = near_other S own parts q t i law arrivals shares lt p n in
      elim (or_either (rides_in i (parcel_rows S own p q s)) (list_any (is_his i) (flat_map (flight_from S own p q s (world_at S (suc s))) (below (length S.persons)))) (sym (carries_is S own p q s i) ∙ c)) [
        | inl y ↦
            let some = ltb-true 0 (listed i (parcel_rows S own p q s)) y in
            let f = find_lead S own p q (listed i) (by_rows i) refl (node_phase_moves S s) (omega arith) in
            let l = f.0 in
            let g = and_parts (eqb (begins_in S own l) p) (eqb (owner_of S own l) q) f.1.0 in
            let bp = eqb-true (begins_in S own l) p g.0 in
            let oq = eqb-true (owner_of S own l) q g.1 in
            let cr : crosses S own l ≡ true = ap (λ x. not (eqb x (owner_of S own l))) bp ∙ ap (λ x. not (eqb p x)) oq ∙ ap not other in
            let j : lag S own (begins_in S own l) (owner_of S own l) ≡ lag S own p q = ap (λ x. lag S own x (owner_of S own l)) bp ∙ ap (lag S own p) oq in
            let last = in_last S l s (listed i) (by_rows i) t (lag S own p q) before within in
            let rows = ap (listed i) (lag_row l cr) ∙ ap (λ x. listed i (came_last S l t x)) j in
            let came1 : 1 ≤ listed i (came S l s) = f.1.1 in
            let r = ride_late l P.place refl cr (omega arith) in
            (r.0 ∙ oq, ap (λ x. is_late S own (lag S own) x t i P.element P.place) (sym oq) ∙ r.1, r.2 ∙ bp)
        | inr y ↦
            let h = from_flights S own p q s i (below (length S.persons)) y in
            let N = person_of i (world_at S (suc s)) in
            let fp = eqb-true (flies_from S own i N.element) p h.1 in
            let d = t - suc s in
            let td : suc (s + d) ≡ t = omega arith in
            let now : N ≡ record { element = N.element; place = Teleporting s } = λ k. record { element = N.element; place = h.0 k } in
            let is : P ≡ record { element = N.element; place = Teleporting s } = ap (λ (x : ℕ). person_of i (world_at S x)) (sym td) ∙ flown S own q p i s N.element law lt other fp h.2 d (omega arith) now in
            let le : nat_le t (s + lag S own p q) ≡ true = grind (arith, nat_tests) in
            let oo : o ≡ owner_of S own (act_after S i N.element).link = ap (λ (X : Person). owner_of S own (link_at S W i X.element X.place)) is in
            let ll : late q ≡ (not (eqb (flies_from S own i N.element) q) && nat_le t (s + lag S own (flies_from S own i N.element) q)) = ap (λ (X : Person). is_late S own (lag S own) q t i X.element X.place) is in
            let l2 : (not (eqb (flies_from S own i N.element) q) && nat_le t (s + lag S own (flies_from S own i N.element) q)) ≡ true = ap (λ (x : ℕ). not (eqb x q) && nat_le t (s + lag S own x q)) fp ∙ (rw (other, le) refl) in
            let ss : sent_by ≡ flies_from S own i N.element = ap (λ (X : Person). sender S own t i X.element X.place) is in
            (oo ∙ eqb-true (owner_of S own (act_after S i N.element).link) q h.2, ll ∙ l2, ss ∙ fp)
      ]

  -- and who is late is carried by a parcel of his sender
  late_carried : (pl : Place) → P.place ≡ pl → (q : ℕ) → eqb (owner_of S own (link_at S W i P.element pl)) q ≡ true → is_late S own (lag S own) q t i P.element pl ≡ true →
      let p = sender S own t i P.element pl in (near S own p q ≡ true) × (list_any (carries i) (sent_last S own p q t (lag S own p q)) ≡ true)
  late_carried (Riding v) e q own_q y =
      let some = ltb-true 0 (listed i (all_late S own (lag S own) q t)) y in
      let f = find_pass i (late_rows S own (lag S own) t) (λ l. eqb (owner_of S own l) q) (links_of S) (omega arith) in
      let l = f.0 in
      let oq = eqb-true (owner_of S own l) q f.1.0 in
      elim (cases_Bool (crosses S own l)) [
        | inl c ↦
            let r = ride_late l (Riding v) e c f.1.1 in
            let b = begins_in S own l in
            let rows = ap (listed i) (lag_row l c) in
            let some2 : 1 ≤ listed i (late_rows S own (lag S own) t l) = f.1.1 in
            let g = find_came S l i t (lag S own b (owner_of S own l)) (omega arith) in
            let s = g.0 in
            let ld : leads S own b (owner_of S own l) l ≡ true = (let x = eq-eqb b b refl in let z = eq-eqb (owner_of S own l) (owner_of S own l) refl in rw (x, z) refl) in
            let a = ap (listed i) (only_all S own b (owner_of S own l) l ld (node_phase_moves S s)) in
            let le = listed-filter i (λ (r : Row). eqb r.link l) (parcel_rows S own b (owner_of S own l) s) in
            let came1 : 1 ≤ listed i (came S l s) = g.1.2 in
            let a2 : listed i (filter (λ (r : Row). eqb r.link l) (parcel_rows S own b (owner_of S own l) s)) ≡ listed i (came S l s) = a in
            let ride : rides_in i (parcel_rows S own b (owner_of S own l) s) ≡ true = lt-ltb 0 (listed i (parcel_rows S own b (owner_of S own l) s)) (omega arith) in
            let car : carries i (out S own b (owner_of S own l) s) ≡ true = carries_is S own b (owner_of S own l) s i ∙ (rw ride refl) in
            let any = any_sent S own b (owner_of S own l) s (carries i) car t (lag S own b (owner_of S own l)) g.1.0 g.1.1 in
            let n = near-down S own l c in
            let one : (near S own b q ≡ true) × (list_any (carries i) (sent_last S own b q t (lag S own b q)) ≡ true) =
            subst (λ (x : ℕ). (near S own b x ≡ true) × (list_any (carries i) (sent_last S own b x t (lag S own b x)) ≡ true)) oq (n, any) in
            subst (λ (x : ℕ). (near S own x q ≡ true) × (list_any (carries i) (sent_last S own x q t (lag S own x q)) ≡ true)) (sym r.2) one
        | inr c ↦ let some2 : 1 ≤ listed i (late_rows S own (lag S own) t l) = f.1.1 in let z : listed i (late_rows S own (lag S own) t l) ≡ 0 = (rw c (ap (listed i) (came_none S l t))) in absurd (omega arith)
      ]
  late_carried (Teleporting start) e q own_q y =
      let b = flies_from S own i P.element in
      let g = and_parts (not (eqb b q)) (nat_le t (start + lag S own b q)) y in
      let within = leb-true t (start + lag S own b q) g.1 in
      let other = not_true (eqb b q) g.0 in
      let began = flights_began S t i start lt e in
      let r = eqb-true (owner_of S own (act_after S i P.element).link) q own_q in
      let w = fly_way S own parts q t i law arrivals shares lt start e in
      let n : near S own b q ≡ true = ap (near S own b) (sym r) ∙ near-hop S own i P.element w.0 w.1.0 lt w.1.1 (ap (eqb b) r ∙ other) in
      let same : person_of i (world_at S (suc start)) ≡ P = flown_back S own parts q t i law arrivals shares lt start (t - suc start) (omega arith) e in
      let h : HisFlight S own b q start i = (ap (λ (X : Person). X.place) same ∙ e, ap (λ (X : Person). eqb (flies_from S own i X.element) b) same ∙ eq-eqb b b refl, ap (λ (X : Person). eqb (owner_of S own (act_after S i X.element).link) q) same ∙ own_q) in
      let fl = to_flights S own b q start i 0 (length S.persons) (omega arith) (omega arith) h in
      let car : carries i (out S own b q start) ≡ true = carries_is S own b q start i ∙ (rw fl (or_true (rides_in i (parcel_rows S own b q start)))) in
      (n, any_sent S own b q start (carries i) car t (lag S own b q) began within)
  late_carried (At end) e q own_q y = absurd (true≢false (sym y))
  late_carried (Waiting stop since) e q own_q y = absurd (true≢false (sym y))
  late_carried (Aborted a) e q own_q y = absurd (true≢false (sym y))

  -- each has him, or sent him, where he ends with it
  abbrev ends_here : ℕ → Bool
  ends_here p = is_some ((held S own p t).person i) || list_any (λ q. near S own p q && list_any (carries i) (sent_last S own p q t (lag S own p q))) (below parts)

  pub held_is : (p : ℕ) → is_some ((held S own p t).person i) ≡ has S own (lag S own) p t i
  unfolding unheard
  held_is p = some_mine (has S own (lag S own) p t i) P

  some_sent : (p : ℕ) → list_any (λ q. near S own p q && list_any (carries i) (sent_last S own p q t (lag S own p q))) (below parts) ≡ true → (q : ℕ) × ((o ≡ q) × (late q ≡ true) × (sent_by ≡ p))
  some_sent p e =
      let f = any_find (λ q. near S own p q && list_any (carries i) (sent_last S own p q t (lag S own p q))) (below parts) e in
      let q = f.0 in
      let g = and_parts (near S own p q) (list_any (carries i) (sent_last S own p q t (lag S own p q))) f.1 in
      let s = find_sent S own p q (carries i) t (lag S own p q) g.1 in
      (q, carried_late p q s.0 g.0 s.1.0 s.1.1 s.1.2)

  pub who_ends : (p : ℕ) → ends_here p ≡ eqb (ender_at S own t i) p
  who_ends p =
      let sent = list_any (λ q. near S own p q && list_any (carries i) (sent_last S own p q t (lag S own p q))) (below parts) in
      let is = has-is S own (lag S own) p t i lt P.place refl in
      ap (λ b. b || sent) (held_is p ∙ is)
      ∙ elim (cases_Bool (late o)) [
        | inl y ↦
            let none : (eqb o p && not (late p)) ≡ false = (elim (cases_Bool (eqb o p)) [
              | inl e ↦ let z : late p ≡ true = ap late (sym (eqb-true o p e)) ∙ y in (rw (e, z) refl)
              | inr e ↦ (rw e refl)
            ]) in
            let ender : ender_at S own t i ≡ sent_by = (rw y refl) in
            let back : eqb sent_by p ≡ eqb (ender_at S own t i) p = ap (λ x. eqb x p) (sym ender) in
            ap (λ b. b || sent) none
            ∙ elim (cases_Bool (eqb sent_by p)) [
              | inl e ↦
                  let c = late_carried P.place refl o (eq-eqb o o refl) y in
                  let sp = eqb-true sent_by p e in
                  let n : near S own p o ≡ true = ap (λ x. near S own x o) (sym sp) ∙ c.0 in
                  let l : list_any (carries i) (sent_last S own p o t (lag S own p o)) ≡ true = ap (λ x. list_any (carries i) (sent_last S own x o t (lag S own x o))) (sym sp) ∙ c.1 in
                  let one : (near S own p o && list_any (carries i) (sent_last S own p o t (lag S own p o))) ≡ true = (rw (n, l) refl) in
                  let within = shares (link_row S (link_at S W i P.element P.place)).to in
                  any_number (λ q. near S own p q && list_any (carries i) (sent_last S own p q t (lag S own p q))) o 0 parts (omega arith) (omega arith) one ∙ sym e ∙ back
              | inr e ↦ (elim (cases_Bool sent) [
                | inl f ↦ let s = some_sent p f in absurd (true≢false (sym (eq-eqb sent_by p s.1.2) ∙ e))
                | inr f ↦ f
              ]) ∙ sym e ∙ back
            ]
        | inr n ↦
            let ender : ender_at S own t i ≡ o = (rw n refl) in
            let back : eqb o p ≡ eqb (ender_at S own t i) p = ap (λ x. eqb x p) (sym ender) in
            let no_sent : sent ≡ false = (elim (cases_Bool sent) [
              | inl f ↦ let s = some_sent p f in absurd (true≢false (sym s.1.1 ∙ ap late (sym s.1.0) ∙ n))
              | inr f ↦ f
            ]) in
            let here : (eqb o p && not (late p)) ≡ eqb o p = (elim (cases_Bool (eqb o p)) [
              | inl e ↦ let z : late p ≡ false = ap late (sym (eqb-true o p e)) ∙ n in (rw (e, z) refl)
              | inr e ↦ (rw e refl)
            ]) in
            ap (λ b. b || sent) here ∙ ap (λ b. eqb o p || b) no_sent ∙ or_false (eqb o p) ∙ back
      ]

-- THE MERGE
ender_less : (S : Setup) (own : Owner) (parts t i : ℕ) → ((n : ℕ) → own n < parts) → ender_at S own t i < parts
ender_less S own parts t i h =
    let P = person_of i (world_at S t) in
    if_less (is_late S own (lag S own) (owner_of_person S own (world_at S t) i) t i P.element P.place) _ _ parts (sender_less S own parts t i P.element P.place h) (h _)

turn_less : (S : Setup) (own : Owner) (parts t code n : ℕ) → ((n : ℕ) → own n < parts) → owner_of_turn S own t code n < parts
turn_less S own parts t code n h = if_less ((eqb code 0) || (eqb code 1)) _ _ parts (h _) (if_less (eqb code 2) _ _ parts (h _) (if_less (eqb code 3) _ _ parts (h n) (h _)))

pub shared : (S : Setup) (own : Owner) (parts : ℕ) → Lawful S → Arrivals S → ((n : ℕ) → own n < parts) → Shared S own parts (ender_at S own S.settings.end_second)
shared S own parts law arrivals shares =
    record {
      events = λ e. turn_less S own parts e.key.second e.key.phase e.key.number shares;
      ends = λ i. ender_less S own parts S.settings.end_second i shares;
      who = λ p i within lt. who_ends S own parts S.settings.end_second i law arrivals shares lt p;
    }

-- What all partitions tell, merged by the keys, is the day.
pub parts_make_the_day : (S : Setup) (own : Owner) (parts : ℕ) → Lawful S → Arrivals S → ((n : ℕ) → own n < parts) → Merges (map (all_told S own parts) (below parts)) (day S)
parts_make_the_day S own parts law arrivals shares = day_merged S own parts (ender_at S own S.settings.end_second) (shared S own parts law arrivals shares)
