-- What the lags are: at least 1, and no longer than what they are the least of.
use Rattle.traffic.proofs.Common.{◌≡◌, ℕ, List, ◌∙◌, length, ap, refl, sym, [], ◌∷◌, arith, ◌<◌, true, ◌++◌, ◌+◌, Bool, inl, inr, ◌≤◌, false, suc, eqb, zero}
use Rattle.traffic.proofs.Common.{get_or, ◌≢◌, ◌/◌, ◌*◌, cases_Bool, eqb-true, cases_lt, eq-eqb, eqb-false, true≢false, get_or_past, map-append}
use Rattle.traffic.proofs.Common.{filter-append, flat_map, list_any, map, filter, Some, None, not, Option, ◌||◌, Mode, Act, free_seconds, below, numbers}
use Rattle.traffic.proofs.Common.{Setup, act_after, leg_at, act_at, link_row, person_plan, hole_of, seconds_of, hole_seconds}
use Rattle.traffic.proofs.Each.{each_all, each_append, each_kept, each_map}
use Rattle.std.specs.List.{AllByRecursion as Each}
use Rattle.rows.specs.declared.plan.Leg.TheVariants as leg
use Rattle.parts.specs.Owners.{Owner, owner_of, begins_in, crosses, Hop, hop_at, hops, hops_over, leads, links_of, least, longest_lag, lag, near}
pub use Rattle.law_partitions.specs.Premises.{LongHops}

-- THE LEAST OF NUMBERS
least-append : (n : ℕ) (xs ys : List ℕ) → least n (xs ++ ys) ≤ least n ys
unfolding least
least-append n [] ys = omega arith
least-append n (x ∷ xs) ys = let h = least-append n xs ys in omega arith

least-le : (n : ℕ) (ys : List ℕ) → least n ys ≤ n
unfolding least
least-le n [] = omega arith
least-le n (y ∷ ys) = let h = least-le n ys in omega arith

least-front : (n : ℕ) (xs ys : List ℕ) → least n (xs ++ ys) ≤ least n xs
unfolding least
least-front n [] ys = least-le n ys
least-front n (x ∷ xs) ys = let h = least-front n xs ys in omega arith

least-number : (n : ℕ) (f : ℕ → ℕ) (pass : ℕ → Bool) (l k c : ℕ) → k ≤ l → l < k + c → pass l ≡ true → least n (map f (filter pass (numbers k c))) ≤ f l
unfolding least
least-number n f pass l k zero h g e = absurd (omega arith)
least-number n f pass l k (suc c) h g e =
    elim (cases_Bool (eqb k l)) [
      | inl q ↦ let r = eqb-true k l q in let e2 : pass k ≡ true = ap pass r ∙ e in let fe = ap f r in rw e2 (omega arith)
      | inr q ↦ let d : k ≢ l = eqb-false k l q in let i = least-number n f pass l (k + 1) c (omega arith) (omega arith) e in elim (cases_Bool (pass k)) [ inl z ↦ rw z (omega arith) | inr z ↦ rw z i ]
    ]

least-some : (n : ℕ) (xs : List ℕ) → 1 ≤ n → Each (λ x. 1 ≤ x) xs → 1 ≤ least n xs
unfolding least
least-some n [] h g = h
least-some n (x ∷ xs) h g = let a = g.0 in let b = least-some n xs h g.1 in omega arith

pub seconds_some : (S : Setup) (l : ℕ) → 1 ≤ seconds_of S l
unfolding free_seconds
seconds_some S l = omega arith

hole_seconds-some : (n : ℕ) (speed : Option ℕ) → 1 ≤ hole_seconds n speed
unfolding hole_seconds
hole_seconds-some n None = omega arith
hole_seconds-some n (Some v) = omega arith

pub hole_some : (S : Setup) (l : ℕ) → 1 ≤ hole_of S l
hole_some S l = hole_seconds-some (link_row S l).length S.settings.hole_speed

-- a link that is not there crosses no border
pub past_link : (S : Setup) (l : ℕ) → length S.links ≤ l → (link_row S l).from ≡ (link_row S l).to
past_link S l h = let e = get_or_past S.links l (record { from = 0; to = 0; length = 0; speed = 1; capacity = 0; lanes = 0 }) h in rw e refl

pub in_range : (S : Setup) (own : Owner) (l : ℕ) → crosses S own l ≡ true → l < length S.links
in_range S own l c = elim (cases_lt l (length S.links)) [
  | inl lt ↦ lt
  | inr past ↦ let f : eqb (begins_in S own l) (owner_of S own l) ≡ true = eq-eqb _ _ (ap own (past_link S l past)) in absurd (true≢false (sym c ∙ ap not f))
]

leads_here : (S : Setup) (own : Owner) (l : ℕ) → leads S own (begins_in S own l) (owner_of S own l) l ≡ true
leads_here S own l = let e = eq-eqb (begins_in S own l) (begins_in S own l) refl in let f = eq-eqb (owner_of S own l) (owner_of S own l) refl in rw (e, f) refl

-- of what the lag is the least
abbrev downs : Setup → Owner → ℕ → ℕ → List ℕ
downs S own q p = map (seconds_of S) (filter (leads S own q p) (links_of S))

abbrev ups : Setup → Owner → ℕ → ℕ → List ℕ
ups S own q p = map (hole_of S) (filter (leads S own p q) (links_of S))

abbrev over : Setup → Owner → ℕ → ℕ → List ℕ
over S own q p = map (λ (h : Hop). h.seconds) (filter (hops_over S own q p) (hops S))

lag-is : (S : Setup) (own : Owner) (q p : ℕ) → lag S own q p ≡ least longest_lag ((downs S own q p ++ ups S own q p) ++ over S own q p)
unfolding lag
lag-is S own q p = refl

pub lag-down : (S : Setup) (own : Owner) (l : ℕ) → crosses S own l ≡ true → lag S own (begins_in S own l) (owner_of S own l) ≤ seconds_of S l
lag-down S own l c =
    let q = begins_in S own l in
    let p = owner_of S own l in
    let lt = in_range S own l c in
    let e = lag-is S own q p in
    let a = least-front longest_lag (downs S own q p ++ ups S own q p) (over S own q p) in
    let b = least-front longest_lag (downs S own q p) (ups S own q p) in
    let d : least longest_lag (downs S own q p) ≤ seconds_of S l = least-number longest_lag (seconds_of S) (leads S own q p) l 0 (length S.links) (omega arith) (omega arith) (leads_here S own l) in omega arith

pub lag-up : (S : Setup) (own : Owner) (l : ℕ) → crosses S own l ≡ true → lag S own (owner_of S own l) (begins_in S own l) ≤ hole_of S l
lag-up S own l c =
    let q = owner_of S own l in
    let p = begins_in S own l in
    let lt = in_range S own l c in
    let e = lag-is S own q p in
    let a = least-front longest_lag (downs S own q p ++ ups S own q p) (over S own q p) in
    let b = least-append longest_lag (downs S own q p) (ups S own q p) in
    let d : least longest_lag (ups S own q p) ≤ hole_of S l = least-number longest_lag (hole_of S) (leads S own p q) l 0 (length S.links) (omega arith) (omega arith) (leads_here S own l) in omega arith

some_each : (f : ℕ → ℕ) → ((x : ℕ) → 1 ≤ f x) → (xs : List ℕ) → Each (λ x. 1 ≤ x) (map f xs)
some_each f h xs = each_map (λ x. Unit {0}) (λ x. 1 ≤ x) f (λ x u. h x) xs (each_all (λ x. Unit {0}) (λ x. tt) xs)

pub lag-some : (S : Setup) (own : Owner) → LongHops S → (q p : ℕ) → 1 ≤ lag S own q p
lag-some S own long q p =
    let e = lag-is S own q p in
    let f = least-some longest_lag ((downs S own q p ++ ups S own q p) ++ over S own q p) (omega arith)
    (each_append (λ x. 1 ≤ x) (downs S own q p ++ ups S own q p) (over S own q p)
    (each_append (λ x. 1 ≤ x) (downs S own q p) (ups S own q p) (some_each (seconds_of S) (seconds_some S) (filter (leads S own q p) (links_of S))) (some_each (hole_of S) (hole_some S) (filter (leads S own p q) (links_of S))))
    (each_map (λ (h : Hop). 1 ≤ h.seconds) (λ x. 1 ≤ x) (λ (h : Hop). h.seconds) (λ h g. g) (filter (hops_over S own q p) (hops S)) (each_kept (λ (h : Hop). 1 ≤ h.seconds) (hops_over S own q p) (hops S) long))) in omega arith

pub lag-most : (S : Setup) (own : Owner) (q p : ℕ) → lag S own q p ≤ longest_lag
lag-most S own q p = let e = lag-is S own q p in let f = least-le longest_lag ((downs S own q p ++ ups S own q p) ++ over S own q p) in omega arith

-- THE FLIGHTS
abbrev secs : Hop → ℕ
secs h = h.seconds

least-flat : (n z : ℕ) (pass : Hop → Bool) (f : ℕ → List Hop) (j k c : ℕ) → k ≤ j → j < k + c → least n (map secs (filter pass (f j))) ≤ z → least n (map secs (filter pass (flat_map f (numbers k c)))) ≤ z
least-flat n z pass f j k zero h g e = absurd (omega arith)
least-flat n z pass f j k (suc c) h g e =
    let xs = f k in
    let ys = flat_map f (numbers (k + 1) c) in
    let split : map secs (filter pass (xs ++ ys)) ≡ map secs (filter pass xs) ++ map secs (filter pass ys) = ap (map secs) (filter-append pass xs ys) ∙ map-append secs (filter pass xs) (filter pass ys) in
    rw split (elim (cases_Bool (eqb k j)) [
      | inl q ↦
          let r = ap (λ (x : ℕ). least n (map secs (filter pass (f x)))) (eqb-true k j q) in
          let a = least-front n (map secs (filter pass xs)) (map secs (filter pass ys)) in omega arith
      | inr q ↦
          let d : k ≢ j = eqb-false k j q in
          let i = least-flat n z pass f j (k + 1) c (omega arith) (omega arith) e in
          let a = least-append n (map secs (filter pass xs)) (map secs (filter pass ys)) in omega arith
    ])

half_twice : (e : ℕ) → (2 * (e / 2)) / 2 ≡ e / 2
half_twice e = omega arith

half_next : (e : ℕ) → (2 * (e / 2) + 2) / 2 ≡ (e + 2) / 2
half_next e = omega arith

hop_there : (S : Setup) (i e : ℕ) (mode : Mode) (seconds : ℕ) → leg_at S i e ≡ leg.Teleport mode seconds →
    hop_at S i (e / 2) ≡ record { from = (act_at S i e).link; to = (act_after S i e).link; seconds = seconds } ∷ []
hop_there S i e mode seconds w =
    let k = e / 2 in
    let none : Act = record { kind = 0; link = 0; end = None } in
    let a : act_at S i (2 * k) ≡ act_at S i e = ap (λ (x : ℕ). get_or (person_plan S i).acts x none) (half_twice e) in
    let b : act_after S i (2 * k) ≡ act_after S i e = ap (λ (x : ℕ). get_or (person_plan S i).acts x none) (half_next e) in
    let c : leg_at S i (2 * k) ≡ leg.Teleport mode seconds = ap (λ (x : ℕ). get_or (person_plan S i).legs x (leg.Car [])) (half_twice e) ∙ w in
    rw (a, b, c) refl

-- a teleported leg has its number
no_drive : (mode : Mode) (seconds : ℕ) → leg.Car [] ≡ leg.Teleport mode seconds → ⊥
no_drive mode seconds e = cc

least_one : (n z : ℕ) → least n (z ∷ []) ≤ z
unfolding least
least_one n z = omega arith

over_is : (S : Setup) (own : Owner) (q p z : ℕ) → least longest_lag (map secs (filter (hops_over S own q p) (flat_map (λ i. flat_map (hop_at S i) (below (length (person_plan S i).legs))) (below (length S.persons))))) ≤ z → least longest_lag (over S own q p) ≤ z
unfolding hops
over_is S own q p z h = h

leg_there : (S : Setup) (i e : ℕ) (mode : Mode) (seconds : ℕ) → leg_at S i e ≡ leg.Teleport mode seconds → e / 2 < length (person_plan S i).legs
leg_there S i e mode seconds w = elim (cases_lt (e / 2) (length (person_plan S i).legs)) [
  | inl lt ↦ lt
  | inr past ↦ absurd (no_drive mode seconds (sym (get_or_past (person_plan S i).legs (e / 2) (leg.Car []) past) ∙ w))
]

pub lag-hop : (S : Setup) (own : Owner) (i e : ℕ) (mode : Mode) (seconds : ℕ) → i < length S.persons → leg_at S i e ≡ leg.Teleport mode seconds →
    lag S own (owner_of S own (act_at S i e).link) (owner_of S own (act_after S i e).link) ≤ seconds
lag-hop S own i e mode seconds lt w =
    let q = owner_of S own (act_at S i e).link in
    let p = owner_of S own (act_after S i e).link in
    let h : Hop = record { from = (act_at S i e).link; to = (act_after S i e).link; seconds = seconds } in
    let pass = hops_over S own q p in
    let fits : pass h ≡ true = (let x = eq-eqb q q refl in let y = eq-eqb p p refl in rw (x, y) refl) in
    let one : least longest_lag (map secs (filter pass (hop_at S i (e / 2)))) ≤ seconds = (rw (hop_there S i e mode seconds w) (rw fits (least_one longest_lag seconds))) in
    let own_plan = least-flat longest_lag seconds pass (hop_at S i) (e / 2) 0 (length (person_plan S i).legs) (omega arith) (let z = leg_there S i e mode seconds w in omega arith) one in
    let all = least-flat longest_lag seconds pass (λ i. flat_map (hop_at S i) (below (length (person_plan S i).legs))) i 0 (length S.persons) (omega arith) (omega arith) own_plan in
    let a = lag-is S own q p in
    let b = least-append longest_lag (downs S own q p ++ ups S own q p) (over S own q p) in
    let c : least longest_lag (over S own q p) ≤ seconds = over_is S own q p seconds all in omega arith

or_true : (x : Bool) → (x || true) ≡ true
or_true true = refl
or_true false = refl

or_assoc : (x y z : Bool) → (x || (y || z)) ≡ ((x || y) || z)
or_assoc true y z = refl
or_assoc false y z = refl

any_append : (pass : Hop → Bool) (xs ys : List Hop) → list_any pass (xs ++ ys) ≡ (list_any pass xs || list_any pass ys)
any_append pass [] ys = refl
any_append pass (x ∷ xs) ys = ap (λ b. pass x || b) (any_append pass xs ys) ∙ or_assoc (pass x) (list_any pass xs) (list_any pass ys)

-- a teleported leg over a border joins neighbours
any_flat : (pass : Hop → Bool) (f : ℕ → List Hop) (j k c : ℕ) → k ≤ j → j < k + c → list_any pass (f j) ≡ true → list_any pass (flat_map f (numbers k c)) ≡ true
any_flat pass f j k zero h g e = absurd (omega arith)
any_flat pass f j k (suc c) h g e =
    any_append pass (f k) (flat_map f (numbers (k + 1) c))
    ∙ elim (cases_Bool (eqb k j)) [
      | inl q ↦ let z : list_any pass (f k) ≡ true = ap (λ (x : ℕ). list_any pass (f x)) (eqb-true k j q) ∙ e in (rw z refl)
      | inr q ↦ let d : k ≢ j = eqb-false k j q in let z = any_flat pass f j (k + 1) c (omega arith) (omega arith) e in (rw z (or_true (list_any pass (f k))))
    ]

pub near-hop : (S : Setup) (own : Owner) (i e : ℕ) (mode : Mode) (seconds : ℕ) → i < length S.persons → leg_at S i e ≡ leg.Teleport mode seconds →
    eqb (owner_of S own (act_at S i e).link) (owner_of S own (act_after S i e).link) ≡ false → near S own (owner_of S own (act_at S i e).link) (owner_of S own (act_after S i e).link) ≡ true
unfolding near hops
near-hop S own i e mode seconds lt w other =
    let q = owner_of S own (act_at S i e).link in
    let p = owner_of S own (act_after S i e).link in
    let h : Hop = record { from = (act_at S i e).link; to = (act_after S i e).link; seconds = seconds } in
    let pass : Hop → Bool = λ h. hops_over S own q p h || hops_over S own p q h in
    let fits : pass h ≡ true = (let x = eq-eqb q q refl in let y = eq-eqb p p refl in rw (x, y) refl) in
    let one : list_any pass (hop_at S i (e / 2)) ≡ true = (rw (hop_there S i e mode seconds w) (rw fits refl)) in
    let own_plan = any_flat pass (hop_at S i) (e / 2) 0 (length (person_plan S i).legs) (omega arith) (let z = leg_there S i e mode seconds w in omega arith) one in
    let all = any_flat pass (λ i. flat_map (hop_at S i) (below (length (person_plan S i).legs))) i 0 (length S.persons) (omega arith) (omega arith) own_plan in
    (rw (other, all) (or_true (list_any (λ l. leads S own q p l || leads S own p q l) (links_of S))))
