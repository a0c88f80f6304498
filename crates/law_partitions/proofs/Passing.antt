-- A person goes from hand to hand: in each state of the core he is in one part, or in one parcel that is not absorbed.
use Rattle.traffic.proofs.Common.{◌≡◌, ℕ, List, ◌∙◌, length, ap, refl, sym, [], ◌∷◌, arith, ◌<◌, true, ◌+◌, Bool, inl, inr, subst, ◌≤◌, false, suc, eqb, ◌-◌}
use Rattle.traffic.proofs.Common.{◌⊎◌, length-append, cases_Bool, eqb-true, and_parts, cases_lt, eq-eqb, ne_eqb, true≢false, ltb-true, lt-ltb, leb-true}
use Rattle.traffic.proofs.Common.{flat_map, list_any, map, filter, Some, not, ◌&&◌, nat_le, Event, world_at, below, person_of, Setup, act_after, listed}
use Rattle.traffic.specs.declared.world.Place.{Place, TheVariants.At, TheVariants.Teleporting, TheVariants.Waiting, TheVariants.Riding, TheVariants.Aborted}
use Rattle.traffic.specs.declared.world.Row.{Row}
use Rattle.parts.specs.Owners.{Owner, owner_of, begins_in, crosses, leads, owner_of_person, lag, near}
use Rattle.parts.specs.Parts.{Held, Parcel, Flight, passed, came, rides_in, is_late, has, flies_from, node_phase_moves, out, held, own_events, carries}
use Rattle.parts.specs.Core.{Core, advance, Reaches, start}
use Rattle.law_partitions.specs.{Alone.goes_out, Alone.person_in, Alone.flying, Kept.Kept, Whole.rule, Single.HereAt, Single.PersonInOne}
use Rattle.law_partitions.proofs.{Order.advance_kept, Order.start_kept, Whole.right, Whole.near-both, Start.has_start, Single.Hands, Single.single_next}
use Rattle.law_partitions.proofs.{Lags.lag-some, Lags.near-hop, Ends.less, Second.came_in, Joined.only_all, Joined.near-down, Joined.near-self, Early.mid}
use Rattle.law_partitions.proofs.{Early.came_is, Listing.listed-filter, Home.Lawful, Home.IsHome, Home.has-is, Owning.Arrivals, Owning.has_next}
use Rattle.law_partitions.proofs.{Owning.home_next, Owning.came_spare, Owning.sent, Owning.sent_came, Carried.by_rows}
use Rattle.law_partitions.proofs.Absorbing.{find_lead, parcel_brings, vehicles_bring, rider_in, flight_in, brought}
use Rattle.law_partitions.proofs.Absorbed.{near_other, fly_way, had_before, found_all, find_long, from}
use Rattle.law_partitions.proofs.Enders.{or_true, or_either, is_his, HisFlight, from_flights, to_flights, carries_is, parcel_rows, carried_late}

any_flying : (i s : ℕ) (fs : List Flight) → 1 ≤ length (flat_map (flying i s) fs) → list_any (is_his i) fs ≡ true
any_flying i s [] h = absurd (omega arith)
any_flying i s (f ∷ fs) h = elim (cases_Bool (eqb f.person i)) [
  | inl e ↦ rw e refl
  | inr e ↦ let h2 : 1 ≤ length (flat_map (flying i s) fs) = simp e at h in let z = any_flying i s fs h2 in (rw (e, z) refl)
]

not_true : (x : Bool) → not x ≡ true → x ≡ false
not_true true e = absurd (true≢false (sym e))
not_true false e = refl

stays_false : (x y : Bool) → x ≡ true → (x && not y) ≡ false → y ≡ true
stays_false true true e f = refl
stays_false true false e f = absurd (true≢false f)
stays_false false y e f = absurd (true≢false (sym e))

module _ (S : Setup) (own : Owner) (parts i : ℕ) (law : Lawful S) (arrivals : Arrivals S) (shares : (n : ℕ) → own n < parts) (lt : i < length S.persons) where
  abbrev hold : ℕ → ℕ → Bool
  hold p t = has S own (lag S own) p t i

  abbrev ready : ℕ → ℕ → Bool
  ready p t = has S own (less S own) p t i

  abbrev carry : ℕ → ℕ → ℕ → Bool
  carry a b s = carries i (out S own a b s)

  other : (q p : ℕ) → near S own q p ≡ true → eqb q p ≡ false
  other q p n = near_other S own parts p 0 i law arrivals shares lt q n

  -- a parcel carries him where his row is found in it
  carries_long : (q p s : ℕ) → near S own q p ≡ true → carry q p s ≡ true → 1 ≤ length (person_in i s (Some (out S own q p s)))
  carries_long q p s n c =
      elim (or_either (rides_in i (parcel_rows S own q p s)) _ (sym (carries_is S own q p s i) ∙ c)) [
        | inl y ↦
            let some = ltb-true 0 (listed i (parcel_rows S own q p s)) y in
            let f = find_lead S own q p (listed i) (by_rows i) refl (node_phase_moves S s) (omega arith) in
            rider_in S own p q i s law arrivals lt (other q p n) f.0 f.1.0 f.1.1
        | inr y ↦
            let h = from_flights S own q p s i (below (length S.persons)) y in
            flight_in S own p q i s law arrivals lt (other q p n) h.0 (eqb-true _ q h.1) h.2
      ]

  long_carries : (q p s : ℕ) → near S own q p ≡ true → 1 ≤ length (person_in i s (Some (out S own q p s))) → carry q p s ≡ true
  unfolding out
  long_carries q p s n h =
      let v = vehicles_bring S own p q i s law arrivals lt (other q p n) in
      let rows = parcel_rows S own q p s in
      let xs = flat_map (brought i) (map (passed (world_at S s)) rows) in
      let ys = (out S own q p s).flights in
      let a = length-append xs (flat_map (flying i s) ys) in
      let v1 = v.1 in
      carries_is S own q p s i
      ∙ elim (cases_lt 0 (listed i rows)) [
        | inl some ↦ let e : rides_in i rows ≡ true = lt-ltb 0 (listed i rows) some in (rw e refl)
        | inr none ↦ let e = any_flying i s ys (omega arith) in (rw e (or_true (rides_in i rows)))
      ]

  takes : (p q t : ℕ) → near S own q p ≡ true → lag S own q p ≤ t → carry q p (t - lag S own q p) ≡ true → ready p t ≡ true
  takes p q t n le c =
      let s = t - lag S own q p in
      let back : s + lag S own q p ≡ t = omega arith in
      let r = parcel_brings S own p q i s law arrivals lt (other q p n) in
      subst (λ (x : ℕ). has S own (less S own) p x i ≡ true) back (r.1 (carries_long q p s n c))

  brings : (p t : ℕ) → ready p t ≡ true → (hold p t ≡ true) ⊎ ((q : ℕ) × ((near S own q p ≡ true) × ((lag S own q p ≤ t) × (carry q p (t - lag S own q p) ≡ true))))
  brings p t r = elim (cases_Bool (hold p t)) [
    | inl e ↦ inl e
    | inr e ↦
        let f = find_long (from S own parts p t i law arrivals shares lt) (below parts) (found_all S own parts p t i law arrivals shares lt e r) in
        let q = f.0 in
        let some = f.1 in
        elim (cases_Bool (near S own q p && nat_le (lag S own q p) t)) [
          | inl z ↦
              let g = and_parts (near S own q p) (nat_le (lag S own q p) t) z in
              let some2 : 1 ≤ length (person_in i (t - lag S own q p) (Some (out S own q p (t - lag S own q p)))) = simp z at some in
              inr (q, (g.0, (leb-true (lag S own q p) t g.1, long_carries q p (t - lag S own q p) g.0 some2)))
          | inr z ↦ let some2 : 1 ≤ 0 = simp z at some in absurd (omega arith)
        ]
  ]

  held_from : (p t : ℕ) → hold p (suc t) ≡ true → ready p t ≡ true
  held_from p t e = (and_parts (ready p t) _ (sym (has_next S own p t i law arrivals lt) ∙ e)).0

  sent_from : (p q t : ℕ) → near S own p q ≡ true → carry p q t ≡ true → ready p t ≡ true
  sent_from p q t n c =
      elim (or_either (rides_in i (parcel_rows S own p q t)) _ (sym (carries_is S own p q t i) ∙ c)) [
        | inl y ↦
            let some = ltb-true 0 (listed i (parcel_rows S own p q t)) y in
            let f = find_lead S own p q (listed i) (by_rows i) refl (node_phase_moves S t) (omega arith) in
            let l = f.0 in
            let came1 : 1 ≤ listed i (came S l t) = f.1.1 in
            let is = ap (listed i) (came_is S l t) in
            let bp = (and_parts (eqb (begins_in S own l) p) (eqb (owner_of S own l) q) f.1.0).0 in
            elim (cases_Bool (ready p t)) [
              | inl r ↦ r
              | inr r ↦ let z = came_spare S own p t i law arrivals lt l (bp ∙ sym (ap not r)) in absurd (omega arith)
            ]
        | inr y ↦
            let h = from_flights S own p q t i (below (length S.persons)) y in
            let P1 = person_of i (world_at S (suc t)) in
            let hh : IsHome S own p t (ready p t) i P1.element (Teleporting t) = subst (λ pl. IsHome S own p t (ready p t) i P1.element pl) h.0 (home_next S own p t i law arrivals lt) in
            sym (hh.1 refl) ∙ h.1
      ]

  goes_at : (p t : ℕ) (pl : Place) → let P1 = person_of i (world_at S (suc t)) in P1.place ≡ pl → ready p t ≡ true → goes_out S own p t (sent S own p t i law arrivals lt) i P1.element pl ≡ true → (q : ℕ) × ((near S own p q ≡ true) × (carry p q t ≡ true))
  goes_at p t (Teleporting start) e r g =
      let P1 = person_of i (world_at S (suc t)) in
      let q = owner_of S own (act_after S i P1.element).link in
      let a = and_parts (eqb start t) (not (eqb q p)) g in
      let at_t = eqb-true start t a.0 in
      let off = not_true (eqb q p) a.1 in
      let e2 : P1.place ≡ Teleporting t = e ∙ ap (λ (x : ℕ). Teleporting x) at_t in
      let hh : IsHome S own p t (ready p t) i P1.element (Teleporting t) = subst (λ pl. IsHome S own p t (ready p t) i P1.element pl) e2 (home_next S own p t i law arrivals lt) in
      let fp : eqb (flies_from S own i P1.element) p ≡ true = hh.1 refl ∙ r in
      let is_p = eqb-true (flies_from S own i P1.element) p fp in
      let w = fly_way S own parts p (suc t) i law arrivals shares lt t e2 in
      let pq : eqb p q ≡ false = ne_eqb p q (λ z. true≢false (sym (eq-eqb q p (sym z)) ∙ off)) in
      let n : near S own p q ≡ true = ap (λ x. near S own x q) (sym is_p) ∙ near-hop S own i P1.element w.0 w.1.0 lt w.1.1 (ap (λ x. eqb x q) is_p ∙ pq) in
      let h : HisFlight S own p q t i = (e2, fp, eq-eqb q q refl) in
      let fl = to_flights S own p q t i 0 (length S.persons) (omega arith) (omega arith) h in
      (q, (n, carries_is S own p q t i ∙ (rw fl (or_true (rides_in i (parcel_rows S own p q t))))))
  goes_at p t (Riding v) e r g =
      let rows = sent S own p t i law arrivals lt in
      let some = ltb-true 0 (listed i rows) g in
      let f = sent_came S own p t i law arrivals lt (omega arith) in
      let m = f.0 in
      let q = owner_of S own m in
      let c1 : 1 ≤ listed i (came_in S t (mid S t) m) = f.1.1 in
      let is = ap (listed i) (came_is S m t) in
      let begins : eqb (begins_in S own m) p ≡ true = (elim (cases_Bool (eqb (begins_in S own m) p)) [
        | inl y ↦ y
        | inr y ↦ let z = came_spare S own p t i law arrivals lt m (y ∙ sym (ap not r)) in absurd (omega arith)
      ]) in
      let bp = eqb-true (begins_in S own m) p begins in
      let qq = eq-eqb q q refl in
      let ld : leads S own p q m ≡ true = (rw (begins, qq) refl) in
      let off : eqb q p ≡ false = f.1.0 in
      let pq : eqb p q ≡ false = ne_eqb p q (λ z. true≢false (sym (eq-eqb q p (sym z)) ∙ off)) in
      let cr : crosses S own m ≡ true = ap (λ x. not (eqb x q)) bp ∙ ap not pq in
      let n : near S own p q ≡ true = ap (λ x. near S own x q) (sym bp) ∙ near-down S own m cr in
      let a = ap (listed i) (only_all S own p q m ld (node_phase_moves S t)) in
      let le = listed-filter i (λ (r : Row). eqb r.link m) (parcel_rows S own p q t) in
      let a2 : listed i (filter (λ (r : Row). eqb r.link m) (parcel_rows S own p q t)) ≡ listed i (came S m t) = a in
      let ride : rides_in i (parcel_rows S own p q t) ≡ true = lt-ltb 0 (listed i (parcel_rows S own p q t)) (omega arith) in
      (q, (n, carries_is S own p q t i ∙ (rw ride refl)))
  goes_at p t (At end) e r g = absurd (true≢false (sym g))
  goes_at p t (Waiting stop since) e r g = absurd (true≢false (sym g))
  goes_at p t (Aborted a) e r g = absurd (true≢false (sym g))

  goes : (p t : ℕ) → ready p t ≡ true → (hold p (suc t) ≡ true) ⊎ ((q : ℕ) × ((near S own p q ≡ true) × (carry p q t ≡ true)))
  goes p t r = elim (cases_Bool (hold p (suc t))) [
    | inl e ↦ inl e
    | inr e ↦ inr (goes_at p t (person_of i (world_at S (suc t))).place refl r (stays_false (ready p t) _ r (sym (has_next S own p t i law arrivals lt) ∙ e)))
  ]

  -- whom p sends is late for the receiver
  abbrev who : ℕ → ℕ
  who t = owner_of_person S own (world_at S t) i

  goes_to : (p q t : ℕ) → near S own p q ≡ true → carry p q t ≡ true → who (suc t) ≡ q
  goes_to p q t n c = let some = lag-some S own law.long p q in (carried_late S own parts (suc t) i law arrivals shares lt p q t n (omega arith) (omega arith) c).0

  not_both : (p q t : ℕ) → near S own p q ≡ true → hold p (suc t) ≡ true → carry p q t ≡ true → ⊥
  not_both p q t n e c =
      let P1 = person_of i (world_at S (suc t)) in
      let a = and_parts (eqb (who (suc t)) p) (not (is_late S own (lag S own) p (suc t) i P1.element P1.place)) (sym (has-is S own (lag S own) p (suc t) i lt P1.place refl) ∙ e) in
      let w = goes_to p q t n c in
      let is_p = eqb-true (who (suc t)) p a.0 in
      true≢false (sym (eq-eqb p q (sym is_p ∙ w)) ∙ other p q n)

  hands : Hands parts (near S own) (lag S own) hold carry ready
  hands =
      record {
        brings = brings;
        keeps = λ p t. had_before S own parts p t i law arrivals shares lt;
        takes = takes;
        goes = goes;
        held_from = held_from;
        sent_from = sent_from;
        not_both = not_both;
        one_out = λ p q r t n m c d. sym (goes_to p q t n c) ∙ goes_to p r t m d;
        not_self = near-self S own;
        some = λ p q n. lag-some S own law.long p q;
      }

  abbrev Here0 : Bool → ℕ → ℕ → ℕ → Type 0
  Here0 k a b s = HereAt parts (near S own) (lag S own) hold carry (λ p. 0) k a b s

  start_is : (p : ℕ) → hold p 0 ≡ eqb (who 0) p
  start_is p = let is_p = lt-ltb i (length S.persons) lt in has_start S own p i ∙ (rw is_p refl)

  start_one : (k j : Bool) (a b s x y u : ℕ) → Here0 k a b s → Here0 j x y u → (k ≡ j) × ((a ≡ x) × ((b ≡ y) × (s ≡ u)))
  start_one false false a b s x y u g h =
      let e = eqb-true (who 0) a (sym (start_is a) ∙ g.1.1.1) in
      let f = eqb-true (who 0) x (sym (start_is x) ∙ h.1.1.1) in
      (refl, (sym e ∙ f, (g.1.0 ∙ sym h.1.0, g.1.1.0 ∙ sym h.1.1.0)))
  start_one true j a b s x y u g h = let z = g.1.1.0 in absurd (omega arith)
  start_one false true a b s x y u g h = let z = h.1.1.0 in absurd (omega arith)

  -- at the start the owner of his first activity has him
  starts_single : PersonInOne S own parts i (λ p. 0)
  starts_single =
      let o = who 0 in
      record { some = (false, (o, (0, (0, (shares _, (refl, (refl, start_is o ∙ eq-eqb o o refl))))))); one = start_one }

  reaches_single : (end : ℕ) (ps : List ℕ) (c d : Core Held Parcel Event) → Kept (rule S own parts) (held S own) (out S own) (own_events S own) c → PersonInOne S own parts i c.done → Reaches (rule S own parts) end ps c d → PersonInOne S own parts i d.done
  unfolding advance
  reaches_single end [] c d k h e = subst (λ (x : Core Held Parcel Event). PersonInOne S own parts i x.done) (sym e) h
  reaches_single end (p ∷ ps) c d k h e =
      let R = rule S own parts in
      let al = e.0 in
      let close : (q : ℕ) → near S own p q ≡ true → c.done q ≤ c.done p + lag S own p q = λ q n. k.close q p (near-both S own q p ∙ n) in
      let k2 = advance_kept R (held S own) (out S own) (own_events S own) end (right S own parts end law arrivals shares) p c k al in
      reaches_single end ps (advance R p c) d k2 (single_next parts (near S own) (lag S own) hold carry ready hands p c.done al.is_part al.heard close h) e.1

-- In each state of the core that a list of allowed events reaches, whatever seconds the parts stand at, a person is in one part or in one parcel that is not absorbed.
pub person_in_one : (S : Setup) (own : Owner) (parts end i : ℕ) → Lawful S → Arrivals S → ((n : ℕ) → own n < parts) → i < length S.persons → (ps : List ℕ) (d : Core Held Parcel Event) →
    Reaches (rule S own parts) end ps (start {H = Held} {P = Parcel} {E = Event} (λ p. held S own p 0)) d → PersonInOne S own parts i d.done
person_in_one S own parts end i law arrivals shares lt ps d e =
    let R = rule S own parts in
    let k = start_kept R (held S own) (out S own) (own_events S own) end (right S own parts end law arrivals shares) in
    reaches_single S own parts i law arrivals shares lt end ps (start {H = Held} {P = Parcel} {E = Event} (λ p. held S own p 0)) d k (starts_single S own parts i law arrivals shares lt) e
