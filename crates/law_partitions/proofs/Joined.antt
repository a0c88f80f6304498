-- Absorbing makes what is held ready, and the second alone gives what is held next: lists, credits, rows and holes.
use Rattle.traffic.proofs.Common.{◌≡◌, ℕ, List, ◌∙◌, length, ap, refl, sym, [], ◌∷◌, arith, ◌<◌, true, ◌++◌, ◌+◌, Bool, inl, inr, ◌≤◌, false, suc, eqb, zero}
use Rattle.traffic.proofs.Common.{◌-◌, ◌≢◌, append-nil, append_assoc, take, cases_Bool, eqb-true, cases_lt, eq-eqb, eqb-false, ne_eqb, true≢false, ltb-false}
use Rattle.traffic.proofs.Common.{nat_tests, filter-append, sum_by-cons, flat_map, list_any, sum_by, map, filter, Some, None, not, ◌&&◌, if◌then◌else◌, nat_le}
use Rattle.traffic.proofs.Common.{◌||◌, replicate, world_at, numbers, World, at, on, holes_at, Setup, hole_of, seconds_of}
use Rattle.traffic.specs.declared.{moves.Move.Move, moves.Move.TheVariants.Transfer, stage.Stage.TheVariants.Queue, world.Row.Row}
use Rattle.parts.specs.Owners.{Owner, owner_of, begins_in, crosses, leads, links_of, near, lag}
use Rattle.parts.specs.Parts.{Passed, Freed, is_some_freed, passed, enters_queue, came, went, came_last, went_last, node_phase_moves, lasting, out}
use Rattle.law_partitions.proofs.History.{known, known_tail, came_older, came_all, went_older, went_all, holes-world, filter_copies}
use Rattle.law_partitions.proofs.{Lags.in_range, Lags.LongHops, Lags.lag-down, Lags.lag-up, Second.take_front, Turns.eqb_turn}
use Rattle.law_partitions.specs.Alone.{rows_to, freed_in, freed_of, given}

-- ABSORBING: one second more of what came, where suc d seconds were not heard of
pub known_more : (S : Setup) (l t d : ℕ) → l < length S.links → suc d ≤ seconds_of S l → d < t → known S t (suc d) l ++ came S l (t - suc d) ≡ known S t d l
known_more S l t d lt h b =
    let xs = known S t (suc d) l in
    let ys = came S l (t - suc d) in
    let zs = came_last S l t d in
    let e : at l Queue (world_at S t) ≡ (xs ++ ys) ++ zs = known_tail S l t (suc d) lt h ∙ ap (λ (us : List Row). xs ++ us) (came_older S l t d b) ∙ sym (append_assoc xs ys zs) in
    sym (ap (λ (q : List Row). take (length q - length zs) q) e ∙ take_front (xs ++ ys) zs)

pub known_same : (S : Setup) (l t d : ℕ) → t ≤ d → known S t (suc d) l ≡ known S t d l
known_same S l t d h = ap (λ (zs : List Row). take (length (at l Queue (world_at S t)) - length zs) (at l Queue (world_at S t))) (came_all S l t d h)

lasting_copies : (t h n s : ℕ) → t ≤ s + h → lasting t h (replicate n s) ≡ replicate n s
lasting_copies t h n s le = filter_copies (λ x. nat_le t (x + h)) n s (grind (arith, nat_tests))

holes_more : (S : Setup) (m t u : ℕ) → suc u ≤ hole_of S m → u < t →
    lasting t (hole_of S m) (holes_at m (world_at S (t - suc u))) ++ replicate (went S m (t - suc u)) (t - suc u) ≡ lasting t (hole_of S m) (holes_at m (world_at S (t - u)))
holes_more S m t u h b =
    let s = t - suc u in
    let i : t - u ≡ suc s = omega arith in
    let n = went S m s in
    sym (ap (λ j. lasting t (hole_of S m) (holes_at m (world_at S j))) i
    ∙ ap (lasting t (hole_of S m)) (holes-world S s m)
    ∙ filter-append (λ x. nat_le t (x + hole_of S m)) (holes_at m (world_at S s)) (replicate n s)
    ∙ ap (λ xs. lasting t (hole_of S m) (holes_at m (world_at S s)) ++ xs) (lasting_copies t (hole_of S m) n s (omega arith)))

-- neighbours
pub any_number : (pass : ℕ → Bool) (l k c : ℕ) → k ≤ l → l < k + c → pass l ≡ true → list_any pass (numbers k c) ≡ true
any_number pass l k zero h g e = absurd (omega arith)
any_number pass l k (suc c) h g e =
    elim (cases_Bool (eqb k l)) [
      | inl q ↦ let r : pass k ≡ true = ap pass (eqb-true k l q) ∙ e in rw r refl
      | inr q ↦ let d : k ≢ l = eqb-false k l q in let i = any_number pass l (k + 1) c (omega arith) (omega arith) e in elim (cases_Bool (pass k)) [ inl z ↦ rw z refl | inr z ↦ rw z i ]
    ]

pub not_true : (b : Bool) → not b ≡ true → b ≡ false
not_true true e = absurd (true≢false (sym e))
not_true false e = refl

pub near-down : (S : Setup) (own : Owner) (l : ℕ) → crosses S own l ≡ true → near S own (begins_in S own l) (owner_of S own l) ≡ true
unfolding near
near-down S own l c =
    let q = begins_in S own l in
    let p = owner_of S own l in
    let lt = in_range S own l c in
    let e = eq-eqb q q refl in
    let f = eq-eqb p p refl in
    let one : (leads S own q p l || leads S own p q l) ≡ true = rw (e, f) refl in
    let any = any_number (λ l. leads S own q p l || leads S own p q l) l 0 (length S.links) (omega arith) (omega arith) one in
    rw (c, any) refl

pub near-up : (S : Setup) (own : Owner) (l : ℕ) → crosses S own l ≡ true → near S own (owner_of S own l) (begins_in S own l) ≡ true
unfolding near
near-up S own l c =
    let p = begins_in S own l in
    let q = owner_of S own l in
    let lt = in_range S own l c in
    let e = eq-eqb q q refl in
    let f = eq-eqb p p refl in
    let g : eqb q p ≡ false = eqb_turn p q (not_true (eqb p q) c) in
    let h = not_true (eqb p q) c in
    let one : (leads S own q p l || leads S own p q l) ≡ true = rw (h, e, f) refl in
    let any = any_number (λ l. leads S own q p l || leads S own p q l) l 0 (length S.links) (omega arith) (omega arith) one in
    rw (g, any) refl

pub near-self : (S : Setup) (own : Owner) (p : ℕ) → near S own p p ≡ false
unfolding near
near-self S own p = let e = eq-eqb p p refl in rw e refl

pub given-self : (S : Setup) (own : Owner) (p t q : ℕ) → eqb q p ≡ true → given S own p t q ≡ None
given-self S own p t q e = let r : near S own q p ≡ false = ap (λ x. near S own x p) (eqb-true q p e) ∙ near-self S own p in rw r refl

-- what a parcel brings to a link
only_one : (S : Setup) (own : Owner) (q p l : ℕ) → leads S own q p l ≡ true → (now : Row) →
    filter (λ (r : Row). eqb r.link l) (if leads S own q p now.link && on now.link Queue now then now ∷ [] else []) ≡ (if eqb now.link l && on now.link Queue now then now ∷ [] else [])
only_one S own q p l e now =
    elim (cases_Bool (eqb now.link l)) [
      | inl f ↦ let g : leads S own q p now.link ≡ true = ap (leads S own q p) (eqb-true now.link l f) ∙ e in rw (g, f) (elim (cases_Bool (on now.link Queue now)) [ inl z ↦ rw z (rw f refl) | inr z ↦ rw z refl ])
      | inr f ↦ rw f (elim (cases_Bool (leads S own q p now.link && on now.link Queue now)) [ inl z ↦ rw z (rw f refl) | inr z ↦ rw z refl ])
    ]

only_enters : (S : Setup) (own : Owner) (q p l : ℕ) → leads S own q p l ≡ true → (m : Move) → filter (λ (r : Row). eqb r.link l) (enters_queue (leads S own q p) m) ≡ enters_queue (λ x. eqb x l) m
only_enters S own q p l e (Transfer a s k was now) = only_one S own q p l e now
only_enters S own q p l e _ = refl

pub only_all : (S : Setup) (own : Owner) (q p l : ℕ) → leads S own q p l ≡ true → (ms : List Move) → filter (λ (r : Row). eqb r.link l) (flat_map (enters_queue (leads S own q p)) ms) ≡ flat_map (enters_queue (λ x. eqb x l)) ms
only_all S own q p l e [] = refl
only_all S own q p l e (m ∷ ms) =
    filter-append (λ (r : Row). eqb r.link l) (enters_queue (leads S own q p) m) (flat_map (enters_queue (leads S own q p)) ms)
    ∙ ap (λ xs. xs ++ filter (λ (r : Row). eqb r.link l) (flat_map (enters_queue (leads S own q p)) ms)) (only_enters S own q p l e m)
    ∙ ap (λ xs. enters_queue (λ x. eqb x l) m ++ xs) (only_all S own q p l e ms)

rows_passed : (W : World) (rows : List Row) → map (λ (y : Passed). y.row) (map (passed W) rows) ≡ rows
rows_passed W [] = refl
rows_passed W (r ∷ rs) = ap (λ xs. r ∷ xs) (rows_passed W rs)

pub out-rows : (S : Setup) (own : Owner) (q p l s : ℕ) → leads S own q p l ≡ true → rows_to l (Some (out S own q p s)) ≡ came S l s
unfolding out
out-rows S own q p l s e =
    ap (filter (λ (r : Row). eqb r.link l)) (rows_passed (world_at S s) (flat_map (enters_queue (leads S own q p)) (node_phase_moves S s)))
    ∙ only_all S own q p l e (node_phase_moves S s)

abbrev freed_row : (ℕ → ℕ) → ℕ → Freed
freed_row went_of l = record { link = l; rows = went_of l }

freed_none_of : (went_of : ℕ → ℕ) (pass : ℕ → Bool) (m k c : ℕ) → m < k → sum_by (freed_in m) (map (freed_row went_of) (filter pass (numbers k c))) ≡ 0
freed_none_of went_of pass m k zero h = refl
freed_none_of went_of pass m k (suc c) h =
    let i = freed_none_of went_of pass m (k + 1) c (omega arith) in
    let e = ne_eqb k m (λ q. omega arith) in
    let xs = map (freed_row went_of) (filter pass (numbers (k + 1) c)) in
    let z : freed_in m (freed_row went_of k) ≡ 0 = rw e refl in
    elim (cases_Bool (pass k)) [
      | inl f ↦ rw f (sum_by-cons (freed_in m) (freed_row went_of k) xs ∙ omega arith)
      | inr f ↦ rw f i
    ]

freed_one_of : (went_of : ℕ → ℕ) (pass : ℕ → Bool) (m k c : ℕ) → k ≤ m → m < k + c → pass m ≡ true → sum_by (freed_in m) (map (freed_row went_of) (filter pass (numbers k c))) ≡ went_of m
freed_one_of went_of pass m k zero h g e = absurd (omega arith)
freed_one_of went_of pass m k (suc c) h g e =
    let xs = map (freed_row went_of) (filter pass (numbers (k + 1) c)) in
    elim (cases_Bool (eqb k m)) [
      | inl q ↦
          let r = eqb-true k m q in
          let pk : pass k ≡ true = ap pass r ∙ e in
          let z = freed_none_of went_of pass m (k + 1) c (omega arith) in
          let w = ap went_of r in
          let y : freed_in m (freed_row went_of k) ≡ went_of k = rw q refl in
          rw pk (sum_by-cons (freed_in m) (freed_row went_of k) xs ∙ omega arith)
      | inr q ↦
          let d : k ≢ m = eqb-false k m q in
          let i = freed_one_of went_of pass m (k + 1) c (omega arith) (omega arith) e in
          let y : freed_in m (freed_row went_of k) ≡ 0 = rw q refl in
          elim (cases_Bool (pass k)) [
            | inl f ↦ rw f (sum_by-cons (freed_in m) (freed_row went_of k) xs ∙ omega arith)
            | inr f ↦ rw f i
          ]
    ]

-- rows of nothing say nothing
none_freed : (b : Bool) (n : ℕ) → n ≡ 0 → (if b then n else 0) ≡ 0
none_freed true n e = e
none_freed false n e = refl

some_freed : (m : ℕ) (xs : List Freed) → sum_by (freed_in m) (filter is_some_freed xs) ≡ sum_by (freed_in m) xs
some_freed m [] = refl
some_freed m (f ∷ fs) =
    let i = some_freed m fs in
    let c = sum_by-cons (freed_in m) f fs in
    elim (cases_Bool (is_some_freed f)) [
      | inl e ↦ rw e (sum_by-cons (freed_in m) f (filter is_some_freed fs) ∙ omega arith)
      | inr e ↦ let none = ltb-false 0 f.rows e in let z : freed_in m f ≡ 0 = none_freed (eqb f.link m) f.rows (omega arith) in rw e (omega arith)
    ]

pub out-freed : (S : Setup) (own : Owner) (q p m s : ℕ) → m < length S.links → leads S own p q m ≡ true → freed_of m (Some (out S own q p s)) ≡ went S m s
unfolding out
out-freed S own q p m s lt e =
    some_freed m (map (freed_row (λ l. went S l s)) (filter (leads S own p q) (links_of S))) ∙ freed_one_of (λ l. went S l s) (leads S own p q) m 0 (length S.links) (omega arith) (omega arith) e

pub leads-is : (S : Setup) (own : Owner) (l : ℕ) → leads S own (begins_in S own l) (owner_of S own l) l ≡ true
leads-is S own l = let e = eq-eqb (begins_in S own l) (begins_in S own l) refl in let f = eq-eqb (owner_of S own l) (owner_of S own l) refl in rw (e, f) refl

-- a queue after the absorbing
pub queue_more : (S : Setup) (own : Owner) (l t d : ℕ) → LongHops S → crosses S own l ≡ true → lag S own (begins_in S own l) (owner_of S own l) ≡ suc d →
    known S t (suc d) l ++ rows_to l (given S own (owner_of S own l) t (begins_in S own l)) ≡ known S t d l
queue_more S own l t d long c e =
    let q = begins_in S own l in
    let p = owner_of S own l in
    let lt = in_range S own l c in
    let le = lag-down S own l c in
    let n = near-down S own l c in
    elim (cases_lt d t) [
      | inl b ↦
          let f : nat_le (lag S own q p) t ≡ true = grind (arith, nat_tests) in
          let g : rows_to l (given S own p t q) ≡ came S l (t - suc d) = (rw (n, f) (out-rows S own q p l (t - lag S own q p) (leads-is S own l) ∙ ap (λ k. came S l (t - k)) e)) in
          ap (λ xs. known S t (suc d) l ++ xs) g ∙ known_more S l t d lt (omega arith) b
      | inr b ↦
          let f : nat_le (lag S own q p) t ≡ false = grind (arith, nat_tests) in
          let g : rows_to l (given S own p t q) ≡ [] = (rw (n, f) refl) in
          ap (λ xs. known S t (suc d) l ++ xs) g ∙ append-nil (known S t (suc d) l) ∙ known_same S l t d b
    ]

pub rows_more : (S : Setup) (own : Owner) (m t u : ℕ) → crosses S own m ≡ true → lag S own (owner_of S own m) (begins_in S own m) ≡ suc u →
    (freed_of m (given S own (begins_in S own m) t (owner_of S own m)) + went_last S m t u ≡ went_last S m t (suc u))
    × (lasting t (hole_of S m) (holes_at m (world_at S (t - suc u))) ++ replicate (freed_of m (given S own (begins_in S own m) t (owner_of S own m))) (t - suc u) ≡ lasting t (hole_of S m) (holes_at m (world_at S (t - u))))
rows_more S own m t u c e =
    let p = begins_in S own m in
    let q = owner_of S own m in
    let lt = in_range S own m c in
    let le = lag-up S own m c in
    let n = near-up S own m c in
    elim (cases_lt u t) [
      | inl b ↦
          let f : nat_le (lag S own q p) t ≡ true = grind (arith, nat_tests) in
          let g : freed_of m (given S own p t q) ≡ went S m (t - suc u) = (rw (n, f) (out-freed S own q p m (t - lag S own q p) lt (leads-is S own m) ∙ ap (λ k. went S m (t - k)) e)) in
          let w = went_older S m t u b in
          (omega arith, ap (λ k. lasting t (hole_of S m) (holes_at m (world_at S (t - suc u))) ++ replicate k (t - suc u)) g ∙ holes_more S m t u (omega arith) b)
      | inr b ↦
          let f : nat_le (lag S own q p) t ≡ false = grind (arith, nat_tests) in
          let g : freed_of m (given S own p t q) ≡ 0 = (rw (n, f) refl) in
          let w = went_all S m t u b in
          let i : t - suc u ≡ t - u = omega arith in
          (omega arith, ap (λ k. lasting t (hole_of S m) (holes_at m (world_at S (t - suc u))) ++ replicate k (t - suc u)) g ∙ append-nil _ ∙ ap (λ j. lasting t (hole_of S m) (holes_at m (world_at S j))) i)
    ]
