-- What is held becomes ready by absorbing: persons, and with them the whole.
use Rattle.traffic.proofs.Common.{◌≡◌, ℕ, List, ◌∙◌, length, ap, refl, sym, [], ◌∷◌, arith, ◌<◌, true, ◌++◌, ◌+◌, Bool, inl, inr, subst, ◌≤◌, false, suc, eqb}
use Rattle.traffic.proofs.Common.{zero, ◌-◌, length-append, fun_ext, leb-false, cases_Bool, eqb-true, and_parts, cases_lt, eq-eqb, true≢false, ltb-true, lt-ltb}
use Rattle.traffic.proofs.Common.{leb-true, ltb-false, nat_tests, flat_map, filter, Some, None, not, ◌&&◌, if◌then◌else◌, nat_lt, nat_le, Mode, Leg, world_at}
use Rattle.traffic.proofs.Common.{below, person_of, Setup, act_after, leg_at, act_at, link_row, IsTeleported, listed, IsSoundPerson}
use Rattle.traffic.specs.declared.world.{Person.Person, Place.Place, Place.TheVariants.At, Place.TheVariants.Teleporting, Place.TheVariants.Waiting}
use Rattle.traffic.specs.declared.world.{Place.TheVariants.Riding, Place.TheVariants.Aborted, Row.Row}
use Rattle.rows.specs.declared.plan.Leg.TheVariants as leg
use Rattle.parts.specs.Owners.{Owner, owner_of, begins_in, crosses, leads, owner_of_person, link_at, lag, near, links_of}
use Rattle.parts.specs.Parts.{mine, came, came_last, late_rows, all_late, is_late, has, flies_from, out, unheard, held, ready}
use Rattle.law_partitions.proofs.Absorbing.{Only, only-append, first_only, first_none, length_in, parcel_brings, rider_in, flight_in}
use Rattle.law_partitions.proofs.Ends.{less, absorb-list, absorb-credit, absorb-rows, absorb-holes}
use Rattle.law_partitions.proofs.{Flights.flight_kept, History.came_none, History.came_older, History.came_all, Home.Lawful, Home.has-is, Joined.near-down}
use Rattle.law_partitions.proofs.{Lags.lag-some, Lags.in_range, Lags.near-hop, Locality.same_held, Owning.Arrivals, Owning.all_some, Tells.listed-append}
use Rattle.law_partitions.specs.Alone.{person_in, or_first, given, absorb}

only_many : (P : Person) (f : ℕ → List Person) → ((q : ℕ) → Only P (f q)) → (ns : List ℕ) → Only P (flat_map f ns)
only_many P f h [] = tt
only_many P f h (n ∷ ns) = only-append P (f n) (flat_map f ns) (h n) (only_many P f h ns)

pub find_long : (f : ℕ → List Person) (ns : List ℕ) → 1 ≤ length (flat_map f ns) → (q : ℕ) × (1 ≤ length (f q))
find_long f [] h = absurd (omega arith)
find_long f (n ∷ ns) h =
    let a = length-append (f n) (flat_map f ns) in
    elim (cases_lt 0 (length (f n))) [ inl lt ↦ (n, omega arith) | inr ge ↦ find_long f ns (omega arith) ]

pub find_pass : (i : ℕ) (f : ℕ → List Row) (pass : ℕ → Bool) (ns : List ℕ) → 1 ≤ listed i (flat_map f (filter pass ns)) → (l : ℕ) × ((pass l ≡ true) × (1 ≤ listed i (f l)))
find_pass i f pass [] h = absurd (omega arith)
find_pass i f pass (n ∷ ns) h =
    elim (cases_Bool (pass n)) [
      | inl e ↦
          let h2 : 1 ≤ listed i (f n ++ flat_map f (filter pass ns)) = simp e at h in
          let a = listed-append i (f n) (flat_map f (filter pass ns)) in
          elim (cases_lt 0 (listed i (f n))) [ inl lt ↦ (n, (e, omega arith)) | inr ge ↦ find_pass i f pass ns (omega arith) ]
      | inr e ↦ let h2 : 1 ≤ listed i (flat_map f (filter pass ns)) = simp e at h in find_pass i f pass ns h2
    ]

not_true : (x : Bool) → not x ≡ true → x ≡ false
not_true true e = absurd (true≢false (sym e))
not_true false e = refl

module _ (S : Setup) (own : Owner) (parts p t i : ℕ) (law : Lawful S) (arrivals : Arrivals S) (shares : (n : ℕ) → own n < parts) (lt : i < length S.persons) where
  abbrev P : Person
  P = person_of i (world_at S t)

  abbrev now : ℕ → ℕ → ℕ
  now = lag S own

  abbrev pub from : ℕ → List Person
  from q = person_in i (t - lag S own q p) (given S own p t q)

  pub near_other : (q : ℕ) → near S own q p ≡ true → eqb q p ≡ false
  unfolding near
  near_other q n = not_true (eqb q p) (and_parts (not (eqb q p)) _ n).0

  of_way : (w : Leg) → leg_at S i P.element ≡ w → IsTeleported (leg_at S i P.element) → (mode : Mode) × ((seconds : ℕ) × (leg_at S i P.element ≡ leg.Teleport mode seconds))
  of_way (leg.Teleport mode seconds) e h = (mode, (seconds, e))
  of_way (leg.Car route) e h = absurd (subst (λ w. IsTeleported w) e h)
  of_way (leg.Transit line access egress) e h = absurd (subst (λ w. IsTeleported w) e h)

  pub back_from : (start d : ℕ) → (person_of i (world_at S (suc (start + d)))).place ≡ Teleporting start → person_of i (world_at S (suc start)) ≡ person_of i (world_at S (suc (start + d)))
  back_from start zero e = let z : suc start ≡ suc (start + zero) = omega arith in ap (λ (x : ℕ). person_of i (world_at S x)) z
  back_from start (suc d) e =
      let u = suc (start + d) in
      let z : suc (start + suc d) ≡ suc u = omega arith in
      let e2 : (person_of i (world_at S (suc u))).place ≡ Teleporting start = subst (λ (x : ℕ). (person_of i (world_at S x)).place ≡ Teleporting start) z e in
      let k = flight_kept S u i start lt (omega arith) e2 in
      let r = back_from start d (ap (λ (X : Person). X.place) (sym k) ∙ e2) in
      r ∙ sym k ∙ ap (λ (x : ℕ). person_of i (world_at S x)) (sym z)

  given_brings : (q : ℕ) → Only P (from q) × (1 ≤ length (from q) → has S own (less S own) p t i ≡ true)
  given_brings q = elim (cases_Bool (near S own q p && nat_le (lag S own q p) t)) [
    | inl e ↦
        let g = and_parts (near S own q p) (nat_le (lag S own q p) t) e in
        let le = leb-true (lag S own q p) t g.1 in
        let s = t - lag S own q p in
        let back : s + lag S own q p ≡ t = omega arith in
        let r = parcel_brings S own p q i s law arrivals lt (near_other q g.0) in
        let moved : Only P (person_in i s (Some (out S own q p s))) × (1 ≤ length (person_in i s (Some (out S own q p s))) → has S own (less S own) p t i ≡ true) =
        subst (λ (x : ℕ). Only (person_of i (world_at S x)) (person_in i s (Some (out S own q p s))) × (1 ≤ length (person_in i s (Some (out S own q p s))) → has S own (less S own) p x i ≡ true)) back r in
        rw e moved
    | inr e ↦ rw e (tt, λ h. absurd (omega arith))
  ]

  abbrev pub all_from : List Person
  all_from = flat_map from (below parts)

  -- where one partition sent him he is found
  found : (q s : ℕ) → q < parts → near S own q p ≡ true → lag S own q p ≤ t → s ≡ t - lag S own q p → 1 ≤ length (person_in i s (Some (out S own q p s))) → 1 ≤ length all_from
  found q s within n le at_s some =
      let f : nat_le (lag S own q p) t ≡ true = grind (arith, nat_tests) in
      let is : from q ≡ person_in i (t - lag S own q p) (Some (out S own q p (t - lag S own q p))) = (rw (n, f) refl) in
      let k = ap length is in
      let moved : 1 ≤ length (person_in i (t - lag S own q p) (Some (out S own q p (t - lag S own q p)))) = subst (λ (x : ℕ). 1 ≤ length (person_in i x (Some (out S own q p x)))) at_s some in
      let le2 = length_in from q 0 parts (omega arith) (omega arith) in omega arith

  -- a flight is by a teleported leg, and was begun as it is
  pub fly_way : (start : ℕ) → P.place ≡ Teleporting start → (mode : Mode) × ((seconds : ℕ) × (leg_at S i P.element ≡ leg.Teleport mode seconds))
  fly_way start e = of_way (leg_at S i P.element) refl (subst (λ pl. IsSoundPerson S i P.element pl) e ((law.sound t).persons i lt)).1

  pub flown_back : (start d : ℕ) → suc (start + d) ≡ t → P.place ≡ Teleporting start → person_of i (world_at S (suc start)) ≡ P
  flown_back start d at_t e = back_from start d (subst (λ (x : ℕ). (person_of i (world_at S x)).place ≡ Teleporting start) (sym at_t) e) ∙ ap (λ (x : ℕ). person_of i (world_at S x)) at_t

  -- LATE BY ONE SECOND
  late_by : (pl : Place) → P.place ≡ pl → eqb (owner_of S own (link_at S (world_at S t) i P.element pl)) p ≡ true → is_late S own now p t i P.element pl ≡ true → is_late S own (less S own) p t i P.element pl ≡ false → 1 ≤ length all_from
  late_by (Riding v) e o yes_late no_late =
      let some = ltb-true 0 (listed i (all_late S own now p t)) yes_late in
      let none = ltb-false 0 (listed i (all_late S own (less S own) p t)) no_late in
      let f = find_pass i (late_rows S own now t) (λ l. eqb (owner_of S own l) p) (links_of S) (omega arith) in
      let l = f.0 in
      let ol = f.1.0 in
      let here = f.1.1 in
      elim (cases_Bool (crosses S own l)) [
        | inl c ↦
            let q = begins_in S own l in
            let inside = in_range S own l c in
            let z = all_some i (late_rows S own (less S own) t) (λ l. eqb (owner_of S own l) p) l 0 (length S.links) (omega arith) (omega arith) ol in
            let r = eqb-true (owner_of S own l) p ol in
            let some_lag = lag-some S own law.long q (owner_of S own l) in
            let d = lag S own q (owner_of S own l) - 1 in
            let j : lag S own q (owner_of S own l) ≡ suc d = omega arith in
            let ln : listed i (late_rows S own now t l) ≡ listed i (came_last S l t (suc d)) = (rw c (ap (λ (x : ℕ). listed i (came_last S l t x)) j)) in
            let ll : listed i (late_rows S own (less S own) t l) ≡ listed i (came_last S l t d) = (rw c refl) in
            let jp : lag S own q p ≡ suc d = ap (lag S own q) (sym r) ∙ j in
            elim (cases_lt d t) [
              | inl b ↦
                  let w = ap (listed i) (came_older S l t d b) ∙ listed-append i (came S l (t - suc d)) (came_last S l t d) in
                  let s = t - suc d in
                  let ld : leads S own q p l ≡ true = (let x = eq-eqb q q refl in rw (x, ol) refl) in
                  let n : near S own q p ≡ true = ap (near S own q) (sym r) ∙ near-down S own l c in
                  let at_s : s ≡ t - lag S own q p = omega arith in
                  found q s (shares (link_row S l).from) n (omega arith) at_s (rider_in S own p q i s law arrivals lt (near_other q n) l ld (omega arith))
              | inr b ↦ let w = ap (listed i) (came_all S l t d b) in absurd (omega arith)
            ]
        | inr c ↦ let ln : listed i (late_rows S own now t l) ≡ 0 = (rw c (ap (listed i) (came_none S l t))) in absurd (omega arith)
      ]
  late_by (Teleporting start) e o yes_late no_late =
      let q = flies_from S own i P.element in
      let g = and_parts (not (eqb q p)) (nat_le t (start + lag S own q p)) yes_late in
      let le1 = leb-true t (start + lag S own q p) g.1 in
      let other = not_true (eqb q p) g.0 in
      let gt : nat_le t (start + less S own q p) ≡ false = (rw other refl) ∙ no_late in
      let lt1 = leb-false t (start + less S own q p) gt in
      let some_lag = lag-some S own law.long q p in
      let r = eqb-true (owner_of S own (act_after S i P.element).link) p o in
      let w = fly_way start e in
      let n : near S own q p ≡ true = ap (near S own q) (sym r) ∙ near-hop S own i P.element w.0 w.1.0 lt w.1.1 (ap (eqb q) r ∙ other) in
      let same : person_of i (world_at S (suc start)) ≡ P = flown_back start (t - suc start) (omega arith) e in
      let pl : (person_of i (world_at S (suc start))).place ≡ Teleporting start = ap (λ (X : Person). X.place) same ∙ e in
      let fr : flies_from S own i (person_of i (world_at S (suc start))).element ≡ q = ap (λ (X : Person). flies_from S own i X.element) same in
      let to : eqb (owner_of S own (act_after S i (person_of i (world_at S (suc start))).element).link) p ≡ true = ap (λ (X : Person). eqb (owner_of S own (act_after S i X.element).link) p) same ∙ o in
      found q start (shares (link_row S (act_at S i P.element).link).to) n (omega arith) (omega arith) (flight_in S own p q i start law arrivals lt other pl fr to)
  late_by (At end) e o yes_late no_late = absurd (true≢false (sym yes_late))
  late_by (Waiting stop since) e o yes_late no_late = absurd (true≢false (sym yes_late))
  late_by (Aborted a) e o yes_late no_late = absurd (true≢false (sym yes_late))

  -- one second less leaves nobody later
  late_more : (pl : Place) → is_late S own (less S own) p t i P.element pl ≡ true → is_late S own now p t i P.element pl ≡ true
  late_more (Riding v) late =
      let some = ltb-true 0 (listed i (all_late S own (less S own) p t)) late in
      let f = find_pass i (late_rows S own (less S own) t) (λ l. eqb (owner_of S own l) p) (links_of S) (omega arith) in
      let l = f.0 in
      let here = f.1.1 in
      elim (cases_Bool (crosses S own l)) [
        | inl c ↦
            let q = begins_in S own l in
            let inside = in_range S own l c in
            let z = all_some i (late_rows S own now t) (λ l. eqb (owner_of S own l) p) l 0 (length S.links) (omega arith) (omega arith) f.1.0 in
            let some_lag = lag-some S own law.long q (owner_of S own l) in
            let d = lag S own q (owner_of S own l) - 1 in
            let j : lag S own q (owner_of S own l) ≡ suc d = omega arith in
            let ln : listed i (late_rows S own now t l) ≡ listed i (came_last S l t (suc d)) = (rw c (ap (λ (x : ℕ). listed i (came_last S l t x)) j)) in
            let ll : listed i (late_rows S own (less S own) t l) ≡ listed i (came_last S l t d) = (rw c refl) in
            lt-ltb 0 (listed i (all_late S own now p t)) (elim (cases_lt d t) [
              | inl b ↦ let w = ap (listed i) (came_older S l t d b) ∙ listed-append i (came S l (t - suc d)) (came_last S l t d) in omega arith
              | inr b ↦ let w = ap (listed i) (came_all S l t d b) in omega arith
            ])
        | inr c ↦ let ll : listed i (late_rows S own (less S own) t l) ≡ 0 = (rw c (ap (listed i) (came_none S l t))) in absurd (omega arith)
      ]
  late_more (Teleporting start) late =
      let q = flies_from S own i P.element in
      let g = and_parts (not (eqb q p)) (nat_le t (start + less S own q p)) late in
      let le = leb-true t (start + less S own q p) g.1 in
      let f : nat_le t (start + lag S own q p) ≡ true = grind (arith, nat_tests) in
      let g0 = g.0 in (rw (g0, f) refl)
  late_more (At end) late = late
  late_more (Waiting stop since) late = late
  late_more (Aborted a) late = late

  abbrev owned : Bool
  owned = eqb (owner_of_person S own (world_at S t) i) p

  abbrev late1 : Bool
  late1 = is_late S own now p t i P.element P.place

  abbrev late0 : Bool
  late0 = is_late S own (less S own) p t i P.element P.place

  is1 : has S own now p t i ≡ (owned && not late1)
  is1 = has-is S own now p t i lt P.place refl

  is0 : has S own (less S own) p t i ≡ (owned && not late0)
  is0 = has-is S own (less S own) p t i lt P.place refl

  pub had_before : has S own now p t i ≡ true → has S own (less S own) p t i ≡ true
  had_before e =
      let g = and_parts owned (not late1) (sym is1 ∙ e) in
      let g0 = g.0 in
      let n : late0 ≡ false = (elim (cases_Bool late0) [ inl y ↦ absurd (true≢false (sym (late_more P.place y) ∙ not_true late1 g.1)) | inr y ↦ y ]) in
      is0 ∙ (rw (g0, n) refl)

  pub found_all : has S own now p t i ≡ false → has S own (less S own) p t i ≡ true → 1 ≤ length all_from
  found_all e f =
      let g = and_parts owned (not late0) (sym is0 ∙ f) in
      let g0 = g.0 in
      let y : late1 ≡ true = (elim (cases_Bool late1) [ inl z ↦ z | inr z ↦ absurd (true≢false (sym (rw (g0, z) refl) ∙ (sym is1 ∙ e))) ]) in
      late_by P.place refl g0 y (not_true late0 g.1)

  pub person_ready : or_first (mine (has S own now p t i) P) all_from ≡ mine (has S own (less S own) p t i) P
  person_ready =
      let only = only_many P from (λ q. (given_brings q).0) (below parts) in
      elim (cases_Bool (has S own now p t i)) [
        | inl e ↦ let f = had_before e in rw (e, f) refl
        | inr e ↦ elim (cases_Bool (has S own (less S own) p t i)) [
          | inl f ↦ let some = found_all e f in rw (e, f) (first_only P all_from only some)
          | inr f ↦ rw (e, f) (first_none all_from (elim (cases_lt 0 (length all_from)) [
            | inl some ↦ let z = find_long from (below parts) (omega arith) in absurd (true≢false (sym ((given_brings z.0).1 z.1) ∙ f))
            | inr none ↦ omega arith
          ]))
        ]
      ]

-- ABSORBING, from what is held to what is ready
pub absorb-person : (S : Setup) (own : Owner) (parts p t : ℕ) → Lawful S → Arrivals S → ((n : ℕ) → own n < parts) → (absorb S own parts p t (given S own p t) (held S own p t)).person ≡ (ready S own p t).person
unfolding absorb unheard
absorb-person S own parts p t law arrivals shares = fun_ext (λ i. elim (cases_lt i (length S.persons)) [
  | inl lt ↦ let e = lt-ltb i (length S.persons) lt in (ap (λ (b : Bool). if b then or_first (mine (has S own (lag S own) p t i) (person_of i (world_at S t))) (flat_map (λ q. person_in i (t - lag S own q p) (given S own p t q)) (below parts)) else None) e) ∙ person_ready S own parts p t i law arrivals shares lt
  | inr past ↦ let e : nat_lt i (length S.persons) ≡ false = grind (arith, nat_tests) in (rw e refl)
])

pub absorb_is : (S : Setup) (own : Owner) (parts p t : ℕ) → Lawful S → Arrivals S → ((n : ℕ) → own n < parts) → absorb S own parts p t (given S own p t) (held S own p t) ≡ ready S own p t
absorb_is S own parts p t law arrivals shares =
    same_held (absorb S own parts p t (given S own p t) (held S own p t)) (ready S own p t) (absorb-list S own parts p t law.long) (absorb-credit S own parts p t law.long) (absorb-rows S own parts p t law.long) (absorb-holes S own parts p t law.long) (absorb-person S own parts p t law arrivals shares)
