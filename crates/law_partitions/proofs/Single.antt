-- What partitions hold and send stays in one place, in whatever order they advance.
use Rattle.traffic.proofs.Common.{◌≡◌, ℕ, ◌∙◌, ap, refl, sym, arith, ◌<◌, true, ◌+◌, Bool, inl, inr, ◌≤◌, false, suc, eqb, ◌-◌, ◌≢◌, ◌⊎◌, cases_Bool}
use Rattle.traffic.proofs.Common.{eqb-true, cases_lt, eq-eqb, eqb-false, ne_eqb, true≢false, if◌then◌else◌}
use Rattle.law_partitions.specs.Single.{HereAt, Single}

-- how it goes from hand to hand in second t of p: p is ready with it where it held it or absorbs it; and then it holds it next or sends it to one
pub record Hands (parts : ℕ) (near : ℕ → ℕ → Bool) (lag : ℕ → ℕ → ℕ) (hold : ℕ → ℕ → Bool) (carry : ℕ → ℕ → ℕ → Bool) (ready : ℕ → ℕ → Bool) : Type 0 where
  pub brings : (p t : ℕ) → ready p t ≡ true → (hold p t ≡ true) ⊎ ((q : ℕ) × ((near q p ≡ true) × ((lag q p ≤ t) × (carry q p (t - lag q p) ≡ true))))
  pub keeps : (p t : ℕ) → hold p t ≡ true → ready p t ≡ true
  pub takes : (p q t : ℕ) → near q p ≡ true → lag q p ≤ t → carry q p (t - lag q p) ≡ true → ready p t ≡ true
  pub goes : (p t : ℕ) → ready p t ≡ true → (hold p (suc t) ≡ true) ⊎ ((q : ℕ) × ((near p q ≡ true) × (carry p q t ≡ true)))
  pub held_from : (p t : ℕ) → hold p (suc t) ≡ true → ready p t ≡ true
  pub sent_from : (p q t : ℕ) → near p q ≡ true → carry p q t ≡ true → ready p t ≡ true
  pub not_both : (p q t : ℕ) → near p q ≡ true → hold p (suc t) ≡ true → carry p q t ≡ true → ⊥
  pub one_out : (p q r t : ℕ) → near p q ≡ true → near p r ≡ true → carry p q t ≡ true → carry p r t ≡ true → q ≡ r
  pub not_self : (p : ℕ) → near p p ≡ false
  pub some : (p q : ℕ) → near p q ≡ true → 1 ≤ lag p q

module _ (parts : ℕ) (near : ℕ → ℕ → Bool) (lag : ℕ → ℕ → ℕ) (hold : ℕ → ℕ → Bool) (carry : ℕ → ℕ → ℕ → Bool) (ready : ℕ → ℕ → Bool) (hands : Hands parts near lag hold carry ready)
    (p : ℕ) (done : ℕ → ℕ) (within : p < parts) (heard : (q : ℕ) → near q p ≡ true → done p < done q + lag q p) (close : (q : ℕ) → near p q ≡ true → done q ≤ done p + lag p q) (h : Single parts near lag hold carry done) where
  abbrev t : ℕ
  t = done p

  abbrev next : ℕ → ℕ
  next x = if eqb x p then t + 1 else done x

  abbrev Old : Bool → ℕ → ℕ → ℕ → Type 0
  Old k a b s = HereAt parts near lag hold carry done k a b s

  abbrev Enter : Bool → ℕ → ℕ → ℕ → Type 0
  Enter k a b s = HereAt parts near lag hold carry next k a b s

  -- what p has or absorbs at this second
  abbrev Taken : Bool → ℕ → ℕ → ℕ → Type 0
  Taken false a b s = a ≡ p
  Taken true a b s = (b ≡ p) × (s + lag a b ≡ t)

  -- what it then holds or sends
  abbrev Born : Bool → ℕ → ℕ → ℕ → Type 0
  Born false a b s = (a ≡ p) × ((b ≡ 0) × ((s ≡ 0) × (hold p (suc t) ≡ true)))
  Born true a b s = (a ≡ p) × ((s ≡ t) × ((near p b ≡ true) × (carry p b t ≡ true)))

  abbrev Same : Bool → ℕ → ℕ → ℕ → Bool → ℕ → ℕ → ℕ → Type 0
  Same k a b s j x y u = (k ≡ j) × ((a ≡ x) × ((b ≡ y) × (s ≡ u)))

  next_p : next p ≡ suc t
  next_p = let e = eq-eqb p p refl in rw e (omega arith)

  next_off : (x : ℕ) → x ≢ p → next x ≡ done x
  next_off x d = let e = ne_eqb x p d in rw e refl

  next_more : (x : ℕ) → done x ≤ next x
  next_more x = elim (cases_Bool (eqb x p)) [ inl e ↦ let d = ap done (eqb-true x p e) in rw e (omega arith) | inr e ↦ rw e (omega arith) ]

  -- each place after it is an old one that p does not take, or born
  comes_from : (k : Bool) (a b s : ℕ) → Enter k a b s → (Old k a b s × (Taken k a b s → ⊥)) ⊎ Born k a b s
  comes_from false a b s n = elim (cases_Bool (eqb a p)) [
    | inl e ↦
        let q = eqb-true a p e in
        let at_p : hold p (suc t) ≡ true = ap (hold p) (sym next_p) ∙ ap (λ x. hold x (next x)) (sym q) ∙ n.1.1.1 in
        inr (q, (n.1.0, (n.1.1.0, at_p)))
    | inr e ↦ let d : a ≢ p = eqb-false a p e in inl ((n.0, (n.1.0, (n.1.1.0, ap (hold a) (sym (next_off a d)) ∙ n.1.1.1))), d)
  ]
  comes_from true a b s n =
      let more = next_more b in
      let low = n.1.0 in
      let high = n.1.1.0 in
      let untaken : Taken true a b s → ⊥ = λ tk. let z = ap next tk.0 in let z2 = next_p in let w = tk.1 in absurd (omega arith) in
      elim (cases_Bool (eqb a p)) [
        | inl e ↦
            let q = eqb-true a p e in
            let z = ap next q in
            let z2 = next_p in
            let d = ap done q in
            elim (cases_lt s t) [
              | inl less ↦ inl ((n.0, (omega arith, (omega arith, n.1.1.1))), untaken)
              | inr more2 ↦
                  let at_t : s ≡ t = omega arith in
                  inr (q, (at_t, (ap (λ x. near x b) (sym q) ∙ n.0, ap (carry p b) (sym at_t) ∙ ap (λ x. carry x b s) (sym q) ∙ n.1.1.1)))
            ]
        | inr e ↦ let d : a ≢ p = eqb-false a p e in let z = next_off a d in inl ((n.0, (omega arith, (omega arith, n.1.1.1))), untaken)
      ]

  born_new : (k : Bool) (a b s : ℕ) → Born k a b s → Enter k a b s
  born_new false a b s r = let z = r.0 in (omega arith, (r.1.0, (r.1.1.0, ap (λ x. hold x (next x)) r.0 ∙ ap (hold p) next_p ∙ r.1.1.1)))
  born_new true a b s r =
      let q = r.0 in
      let n = r.1.1.0 in
      let c = close b n in
      let some = hands.some p b n in
      let l : lag a b ≡ lag p b = ap (λ x. lag x b) q in
      let z = ap next q in
      let z2 = next_p in
      let st = r.1.0 in
      let low : next b ≤ s + lag a b = (elim (cases_Bool (eqb b p)) [
        | inl e ↦ let w = ap next (eqb-true b p e) in omega arith
        | inr e ↦ let d : b ≢ p = eqb-false b p e in let w = next_off b d in omega arith
      ]) in
      (ap (λ x. near x b) q ∙ n, (low, (omega arith, ap (λ x. carry x b s) q ∙ ap (carry p b) st ∙ r.1.1.1)))

  -- what p takes makes it ready, and it is ready with nothing else
  taken_ready : (k : Bool) (a b s : ℕ) → Old k a b s → Taken k a b s → ready p t ≡ true
  taken_ready false a b s o tk = hands.keeps p t (ap (λ x. hold x (done x)) (sym tk) ∙ o.1.1.1)
  taken_ready true a b s o tk =
      let w = tk.1 in
      let l : lag a b ≡ lag a p = ap (lag a) tk.0 in
      let at_s : s ≡ t - lag a p = omega arith in
      hands.takes p a t (ap (near a) (sym tk.0) ∙ o.0) (omega arith) (ap (carry a p) (sym at_s) ∙ ap (λ x. carry a x s) (sym tk.0) ∙ o.1.1.1)

  ready_taken : ready p t ≡ true → (k : Bool) × ((a : ℕ) × ((b : ℕ) × ((s : ℕ) × (Old k a b s × Taken k a b s))))
  ready_taken r = elim (hands.brings p t r) [
    | inl e ↦ (false, (p, (0, (0, ((within, (refl, (refl, e))), refl)))))
    | inr f ↦
        let q = f.0 in
        let le = f.1.1.0 in
        let lt = heard q f.1.0 in
        (true, (q, (p, (t - lag q p, ((f.1.0, (omega arith, (omega arith, f.1.1.1))), (refl, omega arith))))))
  ]

  born_ready : (k : Bool) (a b s : ℕ) → Born k a b s → ready p t ≡ true
  born_ready false a b s r = hands.held_from p t r.1.1.1
  born_ready true a b s r = hands.sent_from p b t r.1.1.0 r.1.1.1

  born_one : (k j : Bool) (a b s x y u : ℕ) → Born k a b s → Born j x y u → Same k a b s j x y u
  born_one false false a b s x y u r v = (refl, (r.0 ∙ sym v.0, (r.1.0 ∙ sym v.1.0, r.1.1.0 ∙ sym v.1.1.0)))
  born_one false true a b s x y u r v = absurd (hands.not_both p y t v.1.1.0 r.1.1.1 v.1.1.1)
  born_one true false a b s x y u r v = absurd (hands.not_both p b t r.1.1.0 v.1.1.1 r.1.1.1)
  born_one true true a b s x y u r v = (refl, (r.0 ∙ sym v.0, (hands.one_out p b y t r.1.1.0 v.1.1.0 r.1.1.1 v.1.1.1, r.1.0 ∙ sym v.1.0)))

  same_taken : (k j : Bool) (a b s x y u : ℕ) → Same k a b s j x y u → Taken k a b s → Taken j x y u
  same_taken false false a b s x y u e tk = sym e.1.0 ∙ tk
  same_taken false true a b s x y u e tk = absurd (true≢false (sym e.0))
  same_taken true false a b s x y u e tk = absurd (true≢false e.0)
  same_taken true true a b s x y u e tk = (sym e.1.1.0 ∙ tk.0, ap (λ z. z + lag x y) (sym e.1.1.1) ∙ ap (λ z. s + lag z y) (sym e.1.0) ∙ ap (λ z. s + lag a z) (sym e.1.1.0) ∙ tk.1)

  apart : (k j : Bool) (a b s x y u : ℕ) → Old k a b s → (Taken k a b s → ⊥) → Born j x y u → ⊥
  apart k j a b s x y u o off r =
      let f = ready_taken (born_ready j x y u r) in
      off (same_taken f.0 k f.1.0 f.1.1.0 f.1.1.1.0 a b s (h.one f.0 k f.1.0 f.1.1.0 f.1.1.1.0 a b s f.1.1.1.1.0 o) f.1.1.1.1.1)

  taken_or_not : (k : Bool) (a b s : ℕ) → Taken k a b s ⊎ (Taken k a b s → ⊥)
  taken_or_not false a b s = elim (cases_Bool (eqb a p)) [ inl e ↦ inl (eqb-true a p e) | inr e ↦ inr (eqb-false a p e) ]
  taken_or_not true a b s = elim (cases_Bool (eqb b p)) [
    | inl e ↦ elim (cases_Bool (eqb (s + lag a b) t)) [ inl f ↦ inl (eqb-true b p e, eqb-true (s + lag a b) t f) | inr f ↦ let d : s + lag a b ≢ t = eqb-false (s + lag a b) t f in inr (λ tk. d tk.1) ]
    | inr e ↦ let d : b ≢ p = eqb-false b p e in inr (λ tk. d tk.0)
  ]

  old_new : (k : Bool) (a b s : ℕ) → Old k a b s → (Taken k a b s → ⊥) → Enter k a b s
  old_new false a b s o off = (o.0, (o.1.0, (o.1.1.0, ap (hold a) (next_off a off) ∙ o.1.1.1)))
  old_new true a b s o off =
      let more = next_more a in
      let low = o.1.0 in
      let high = o.1.1.0 in
      let low2 : next b ≤ s + lag a b = (elim (cases_Bool (eqb b p)) [
        | inl e ↦
            let q = eqb-true b p e in
            let w = ap next q in
            let z2 = next_p in
            let d = ap done q in
            elim (cases_Bool (eqb (s + lag a b) t)) [
              | inl f ↦ absurd (off (q, eqb-true (s + lag a b) t f))
              | inr f ↦ let g : s + lag a b ≢ t = eqb-false (s + lag a b) t f in omega arith
            ]
        | inr e ↦ let d : b ≢ p = eqb-false b p e in let w = next_off b d in omega arith
      ]) in
      (o.0, (low2, (omega arith, o.1.1.1)))

  -- so it is in one place after it, too
  pub single_next : Single parts near lag hold carry next
  single_next =
      record {
        some =
            let x = h.some in
            elim (taken_or_not x.0 x.1.0 x.1.1.0 x.1.1.1.0) [
              | inl tk ↦ elim (hands.goes p t (taken_ready x.0 x.1.0 x.1.1.0 x.1.1.1.0 x.1.1.1.1 tk)) [
                | inl e ↦ (false, (p, (0, (0, born_new false p 0 0 (refl, (refl, (refl, e)))))))
                | inr f ↦ (true, (p, (f.0, (t, born_new true p f.0 t (refl, (refl, (f.1.0, f.1.1)))))))
              ]
              | inr off ↦ (x.0, (x.1.0, (x.1.1.0, (x.1.1.1.0, old_new x.0 x.1.0 x.1.1.0 x.1.1.1.0 x.1.1.1.1 off))))
            ];
        one = λ k j a b s x y u n m. elim (comes_from k a b s n) [
          | inl o ↦ elim (comes_from j x y u m) [
            | inl v ↦ h.one k j a b s x y u o.0 v.0
            | inr v ↦ absurd (apart k j a b s x y u o.0 o.1 v)
          ]
          | inr r ↦ elim (comes_from j x y u m) [
            | inl v ↦ absurd (apart j k x y u a b s v.0 v.1 r)
            | inr v ↦ born_one k j a b s x y u r v
          ]
        ];
      }
