-- In whatever order the partitions advance, each holds what the day gives it at its own done seconds; some may always advance; and all come to the end.
use Rattle.traffic.proofs.Common.{◌≡◌, ℕ, List, ◌∙◌, length, ap, refl, sym, [], ◌∷◌, arith, ◌<◌, true, ◌++◌, ◌+◌, inl, inr, subst, ◌≤◌, false, suc, eqb, zero}
use Rattle.traffic.proofs.Common.{◌-◌, ◌≢◌, ◌*◌, fun_ext, leb-false, cases_Bool, eqb-true, cases_lt, eqb-false, ne_eqb, true≢false, leb-true, map, Some, None}
use Rattle.traffic.proofs.Common.{Option, ◌&&◌, if◌then◌else◌, nat_le, numbers}
use Rattle.parts.specs.Core.{Core, Rule, first, rest, absorbed, advance, Allowed, Reaches, start}
pub use Rattle.law_partitions.specs.Kept.{boxed, Kept}

-- what p is given before second t
abbrev pub sent_to : {H P E : Type 0} → Rule H P E → (ℕ → ℕ → ℕ → P) → ℕ → ℕ → ℕ → Option P
sent_to R out p t q = if R.near q p && nat_le (R.lag q p) t then Some (out q p (t - R.lag q p)) else None

-- what the day gives: to hold, to send, and to tell
pub record Right {H P E : Type 0} (R : Rule H P E) (hold : ℕ → ℕ → H) (out : ℕ → ℕ → ℕ → P) (own : ℕ → ℕ → List E) (end : ℕ) : Type 0 where
  pub both_ways : (p q : ℕ) → R.near p q ≡ R.near q p
  pub not_self : (p : ℕ) → R.near p p ≡ false
  pub parts_near : (p q : ℕ) → R.near q p ≡ true → q < R.parts
  pub some : (p q : ℕ) → R.near q p ≡ true → 1 ≤ R.lag q p
  pub steps : (p t : ℕ) → p < R.parts → t < end → R.step p t (hold p t) (sent_to R out p t) ≡ hold p (t + 1)
  pub sends : (p t q : ℕ) → p < R.parts → t < end → R.near p q ≡ true → R.send p t (hold p t) (sent_to R out p t) q ≡ out p q t
  pub tells : (p t : ℕ) → p < R.parts → t < end → own p t ++ R.tell p t (hold p t) (sent_to R out p t) ≡ own p (t + 1)
  pub silent : (p : ℕ) → own p 0 ≡ []

map-push : {P : Type 0} (f : ℕ → P) (k n : ℕ) → map f (numbers k n) ++ f (k + n) ∷ [] ≡ map f (numbers k (n + 1))
map-push f k zero = let e : k + 0 ≡ k = omega arith in rw e refl
map-push f k (suc n) =
    let e : k + suc n ≡ (k + 1) + n = omega arith in
    let g : suc n + 1 ≡ suc (n + 1) = omega arith in
    rw (e, g) (ap (λ ys. f k ∷ ys) (map-push f (k + 1) n))

first-boxed : {P : Type 0} (f : ℕ → P) (k n : ℕ) → 0 < n → first (map f (numbers k n)) ≡ Some (f k)
first-boxed f k zero h = absurd (omega arith)
first-boxed f k (suc n) h = refl

rest-boxed : {P : Type 0} (f : ℕ → P) (k n : ℕ) → 0 < n → rest (map f (numbers k n)) ≡ map f (numbers (k + 1) (n - 1))
rest-boxed f k zero h = absurd (omega arith)
rest-boxed f k (suc n) h = let e : suc n - 1 ≡ n = omega arith in rw e refl

module _ {H P E : Type 0} (R : Rule H P E) (hold : ℕ → ℕ → H) (out : ℕ → ℕ → ℕ → P) (own : ℕ → ℕ → List E) (end : ℕ) (right : Right R hold out own end) where
  -- what p absorbs is what it is given
  takes_right : (p : ℕ) (c : Core H P E) → Kept R hold out own c → Allowed R end p c → absorbed R c p ≡ sent_to R out p (c.done p)
  takes_right p c k al =
      fun_ext (λ q. elim (cases_Bool (R.near q p)) [
        | inl e ↦ elim (cases_Bool (nat_le (R.lag q p) (c.done p))) [
          | inl f ↦
              let le = leb-true (R.lag q p) (c.done p) f in
              let heard = al.heard q e in
              simp (e, f) (ap first (k.boxes q p e) ∙ first-boxed (out q p) (c.done p - R.lag q p) (c.done q - (c.done p - R.lag q p)) (omega arith))
          | inr f ↦ simp (e, f)
        ]
        | inr e ↦ simp e
      ])

  one_box : (p : ℕ) (c : Core H P E) → Kept R hold out own c → Allowed R end p c → (a b : ℕ) → R.near a b ≡ true → (advance R p c).box a b ≡ boxed out R.lag (advance R p c).done a b
  unfolding advance
  one_box p c k al a b near =
      let t = c.done p in
      let got = takes_right p c k al in
      elim (cases_Bool (eqb a p)) [
        | inl e ↦
            let q = eqb-true a p e in
            let near_p : R.near p b ≡ true = ap (λ z. R.near z b) (sym q) ∙ near in
            let other : b ≢ p = λ z. true≢false (sym near_p ∙ ap (R.near p) z ∙ right.not_self p) in
            let f = ne_eqb b p other in
            let close = k.close b p (right.both_ways b p ∙ near_p) in
            let sent = ap (λ h. R.send p t h (absorbed R c p) b) (k.holds p) ∙ ap (λ g. R.send p t (hold p t) g b) got ∙ right.sends p t b al.is_part al.before_end near_p in
            let j = c.done b - R.lag p b in
            let place : j + (t - j) ≡ t = omega arith in
            let n : (t + 1) - j ≡ (t - j) + 1 = omega arith in
            let m = map-push (out p b) j (t - j) in
            let xs = map (out p b) (numbers j (t - j)) in
            let before : c.box p b ≡ xs = k.boxes p b near_p in
            let last : c.box p b ++ R.send p t (c.hold p) (absorbed R c p) b ∷ [] ≡ map (out p b) (numbers j (t + 1 - j)) =
            ap (λ zs. zs ++ R.send p t (c.hold p) (absorbed R c p) b ∷ []) before
            ∙ ap (λ z. xs ++ z ∷ []) sent
            ∙ ap (λ z. xs ++ out p b z ∷ []) (sym place)
            ∙ m
            ∙ ap (λ x. map (out p b) (numbers j x)) (sym n) in
            simp (e, f, near_p) (ap (λ x. c.box x b ++ R.send p t (c.hold p) (absorbed R c p) b ∷ []) q ∙ last ∙ ap (λ x. map (out x b) (numbers (c.done b - R.lag x b) (t + 1 - (c.done b - R.lag x b)))) (sym q))
        | inr e ↦ elim (cases_Bool (eqb b p)) [
          | inl f ↦
              let q = eqb-true b p f in
              let near_a : R.near a p ≡ true = ap (R.near a) (sym q) ∙ near in
              let heard = al.heard a near_a in
              let some = right.some p a near_a in
              let l : R.lag a b ≡ R.lag a p = ap (R.lag a) q in
              let d : c.done b ≡ c.done p = ap c.done q in
              let j = t - R.lag a p in
              let box : c.box a b ≡ map (out a b) (numbers j (c.done a - j)) = k.boxes a b near ∙ ap (λ x. map (out a b) (numbers (x - R.lag a b) (c.done a - (x - R.lag a b)))) d ∙ ap (λ x. map (out a b) (numbers (t - x) (c.done a - (t - x)))) l in
              let goal : ℕ → List P = λ x. map (out a b) (numbers (t + 1 - x) (c.done a - (t + 1 - x))) in
              elim (cases_Bool (nat_le (R.lag a p) t)) [
                | inl g ↦
                    let le = leb-true (R.lag a p) t g in
                    let i : j + 1 ≡ t + 1 - R.lag a p = omega arith in
                    let m : c.done a - j - 1 ≡ c.done a - (t + 1 - R.lag a p) = omega arith in
                    let r = rest-boxed (out a b) j (c.done a - j) (omega arith) in
                    simp (e, f, near_a, g) (ap rest box ∙ r ∙ ap (λ x. map (out a b) (numbers x (c.done a - j - 1))) i ∙ ap (λ x. map (out a b) (numbers (t + 1 - R.lag a p) x)) m ∙ ap goal (sym l))
                | inr g ↦
                    let gt = leb-false (R.lag a p) t g in
                    let i : j ≡ t + 1 - R.lag a p = omega arith in
                    simp (e, f, near_a, g) (box ∙ ap (λ x. map (out a b) (numbers x (c.done a - x))) i ∙ ap goal (sym l))
              ]
          | inr f ↦ simp (e, f) (k.boxes a b near)
        ]
      ]

  pub advance_kept : (p : ℕ) (c : Core H P E) → Kept R hold out own c → Allowed R end p c → Kept R hold out own (advance R p c)
  unfolding advance
  advance_kept p c k al =
      let got = takes_right p c k al in
      let t = c.done p in
      record {
        holds = λ x. elim (cases_Bool (eqb x p)) [
          | inl e ↦ let q = eqb-true x p e in simp e (ap (λ h. R.step p t h (absorbed R c p)) (k.holds p) ∙ ap (R.step p t (hold p t)) got ∙ right.steps p t al.is_part al.before_end ∙ ap (λ z. hold z (t + 1)) (sym q))
          | inr e ↦ simp e (k.holds x)
        ];
        tolds = λ x. elim (cases_Bool (eqb x p)) [
          | inl e ↦
              let q = eqb-true x p e in
              simp e (ap (λ l. l ++ R.tell p t (c.hold p) (absorbed R c p)) (k.tolds p) ∙ ap (λ h. own p t ++ R.tell p t h (absorbed R c p)) (k.holds p) ∙ ap (λ g. own p t ++ R.tell p t (hold p t) g) got
              ∙ right.tells p t al.is_part al.before_end ∙ ap (λ z. own z (t + 1)) (sym q))
          | inr e ↦ simp e (k.tolds x)
        ];
        boxes = one_box p c k al;
        close = λ a b near. elim (cases_Bool (eqb a p)) [
          | inl e ↦ elim (cases_Bool (eqb b p)) [
            | inl f ↦ let z = k.close a b near in simp (e, f) (let d : c.done a ≡ c.done p = ap c.done (eqb-true a p e) in let g : c.done b ≡ c.done p = ap c.done (eqb-true b p f) in omega arith)
            | inr f ↦
                let q = eqb-true a p e in
                let near_b : R.near b p ≡ true = right.both_ways b p ∙ ap (λ z. R.near z b) (sym q) ∙ near in
                let heard = al.heard b near_b in
                let l : R.lag b a ≡ R.lag b p = ap (R.lag b) q in
                simp (e, f) (omega arith)
          ]
          | inr e ↦ elim (cases_Bool (eqb b p)) [
            | inl f ↦ let d : c.done b ≡ c.done p = ap c.done (eqb-true b p f) in let le = k.close a b near in simp (e, f) (omega arith)
            | inr f ↦ simp (e, f) (k.close a b near)
          ]
        ];
      }

  -- Every list of allowed events from the start
  pub reaches_kept : (ps : List ℕ) (c d : Core H P E) → Kept R hold out own c → Reaches R end ps c d → Kept R hold out own d
  reaches_kept [] c d k e = subst (λ x. Kept R hold out own x) (sym e) k
  reaches_kept (p ∷ ps) c d k e = reaches_kept ps (advance R p c) d (advance_kept p c k e.0) e.1

  pub start_kept : Kept R hold out own (start {H = H} {P = P} {E = E} (λ p. hold p 0))
  start_kept = record { holds = λ p. refl; tolds = λ p. sym (right.silent p); boxes = λ a b near. let z : 0 - (0 - R.lag a b) ≡ 0 = omega arith in (rw z refl); close = λ a b near. omega arith }

  pub every_order : (ps : List ℕ) (d : Core H P E) → Reaches R end ps (start {H = H} {P = P} {E = E} (λ p. hold p 0)) d → Kept R hold out own d
  every_order ps d e = reaches_kept ps (start {H = H} {P = P} {E = E} (λ p. hold p 0)) d start_kept e

  -- NO DEAD END
  least_done : (done : ℕ → ℕ) (n : ℕ) → (p : ℕ) × ((p < suc n) × ((q : ℕ) → q < suc n → done p ≤ done q))
  least_done done zero = (0, (omega arith, λ q h. let e : q ≡ 0 = omega arith in let f = ap done e in omega arith))
  least_done done (suc n) =
      let r = least_done done n in
      let p = r.0 in
      let lt = r.1.0 in
      let low = r.1.1 in
      elim (cases_lt (done (suc n)) (done p)) [
        | inl less ↦ (suc n, (omega arith, λ q h. elim (cases_lt q (suc n)) [ inl i ↦ let z = low q i in omega arith | inr j ↦ let e : q ≡ suc n = omega arith in let f = ap done e in omega arith ]))
        | inr more ↦ (p, (omega arith, λ q h. elim (cases_lt q (suc n)) [ inl i ↦ low q i | inr j ↦ let e : q ≡ suc n = omega arith in let f = ap done e in omega arith ]))
      ]

  pub no_dead_end : (c : Core H P E) (x n : ℕ) → R.parts ≡ suc n → x < R.parts → c.done x < end → (p : ℕ) × Allowed R end p c
  no_dead_end c x n e lt before =
      let r = least_done c.done n in
      let p = r.0 in
      let low = r.1.1 in
      let z = low x (omega arith) in
      let within = r.1.0 in
      (p, record { is_part = omega arith; before_end = omega arith; heard = λ q near. let i = right.parts_near p q near in let s = right.some p q near in let y = low q (omega arith) in omega arith })

  -- ALL COME TO THE END
  abbrev sum_from : (ℕ → ℕ) → ℕ → ℕ → ℕ
  sum_from done k zero = 0
  sum_from done k (suc n) = done k + sum_from done (k + 1) n

  sum_past : (p : ℕ) (c : Core H P E) (k n : ℕ) → p < k → sum_from (advance R p c).done k n ≡ sum_from c.done k n
  unfolding advance
  sum_past p c k zero h = refl
  sum_past p c k (suc n) h = let e = ne_eqb k p (λ q. omega arith) in let r = sum_past p c (k + 1) n (omega arith) in rw e (omega arith)

  sum_step : (p : ℕ) (c : Core H P E) (k n : ℕ) → k ≤ p → p < k + n → sum_from (advance R p c).done k n ≡ suc (sum_from c.done k n)
  unfolding advance
  sum_step p c k zero h g = absurd (omega arith)
  sum_step p c k (suc n) h g = elim (cases_Bool (eqb k p)) [
    | inl e ↦ let q = eqb-true k p e in let r = sum_past p c (k + 1) n (omega arith) in let d = ap c.done q in rw e (omega arith)
    | inr e ↦ let d : k ≢ p = eqb-false k p e in let r = sum_step p c (k + 1) n (omega arith) (omega arith) in rw e (omega arith)
  ]

  -- nobody goes past the end, and each event is one second
  abbrev NotPast : Core H P E → Type 0
  NotPast c = (q : ℕ) → c.done q ≤ end

  step_past : (p : ℕ) (c : Core H P E) → NotPast c → Allowed R end p c → NotPast (advance R p c)
  unfolding advance
  step_past p c h al q = elim (cases_Bool (eqb q p)) [ inl e ↦ let lt = al.before_end in rw e (omega arith) | inr e ↦ rw e (h q) ]

  reaches_sum : (ps : List ℕ) (c d : Core H P E) → NotPast c → Reaches R end ps c d → NotPast d × (sum_from d.done 0 R.parts ≡ sum_from c.done 0 R.parts + length ps)
  reaches_sum [] c d h e = subst (λ x. NotPast x × (sum_from x.done 0 R.parts ≡ sum_from c.done 0 R.parts + 0)) (sym e) (h, omega arith)
  reaches_sum (p ∷ ps) c d h e =
      let r = reaches_sum ps (advance R p c) d (step_past p c h e.0) e.1 in
      let lt = e.0.is_part in
      let s = sum_step p c 0 R.parts (omega arith) (omega arith) in
      let t = r.1 in (r.0, omega arith)

  sum_most : (done : ℕ → ℕ) → ((q : ℕ) → done q ≤ end) → (k n : ℕ) → sum_from done k n ≤ n * end
  sum_most done h k zero = omega arith
  sum_most done h k (suc n) = let r = sum_most done h (k + 1) n in let z = h k in let e : suc n * end ≡ end + n * end = grind arith in omega arith

  all_full : (done : ℕ → ℕ) → ((q : ℕ) → done q ≤ end) → (k n : ℕ) → sum_from done k n ≡ n * end → (q : ℕ) → k ≤ q → q < k + n → done q ≡ end
  all_full done h k zero e q a b = absurd (omega arith)
  all_full done h k (suc n) e q a b =
      let r = sum_most done h (k + 1) n in
      let z = h k in
      let f : suc n * end ≡ end + n * end = grind arith in
      elim (cases_Bool (eqb k q)) [
        | inl g ↦ let i = ap done (eqb-true k q g) in omega arith
        | inr g ↦ let d : k ≢ q = eqb-false k q g in all_full done h (k + 1) n (omega arith) q (omega arith) (omega arith)
      ]

  sum_zero : (k n : ℕ) → sum_from (λ p. 0) k n ≡ 0
  sum_zero k zero = refl
  sum_zero k (suc n) = let r = sum_zero (k + 1) n in omega arith

  -- As many allowed events as there are seconds of all partitions lead to the end.
  pub all_at_end : (ps : List ℕ) (d : Core H P E) → Reaches R end ps (start {H = H} {P = P} {E = E} (λ p. hold p 0)) d → length ps ≡ R.parts * end → (q : ℕ) → q < R.parts → d.done q ≡ end
  all_at_end ps d e n q lt =
      let r = reaches_sum ps (start {H = H} {P = P} {E = E} (λ p. hold p 0)) d (λ q. omega arith) e in
      let z = sum_zero 0 R.parts in
      let s = r.1 in
      all_full d.done r.0 0 R.parts (omega arith) q (omega arith) (omega arith)
