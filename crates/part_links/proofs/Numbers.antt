-- Numbers among others.
use Rattle.std.proofs.Common.{◌≡◌, ◌≢◌, ℕ, zero, suc, ◌+◌, ◌<◌, ◌≤◌, Bool, true, false, List, [], ◌∷◌, ◌++◌, refl, ap, sym, ◌∙◌, arith, inl, inr, eqb}
use Rattle.std.specs.Prelude.{filter, ◌||◌}
use Rattle.std.proofs.lemmas.Bool.{cases_Bool, eq-eqb, eqb-true, eqb-false, ne_eqb}
use Rattle.traffic.specs.Lists.{numbers, below}
use Rattle.node_seconds.specs.Networks.{is_among, AreOnce}

pub among_own : (n : ℕ) (ms : List ℕ) → is_among n (ms ++ n ∷ []) ≡ true
among_own n [] = let e = eq-eqb n n refl in rw e refl
among_own n (m ∷ ms) = elim (cases_Bool (eqb m n)) [ inl e ↦ rw e refl | inr e ↦ rw e (among_own n ms) ]

pub among_other : (l n : ℕ) (ms : List ℕ) → eqb n l ≡ false → is_among l (ms ++ n ∷ []) ≡ is_among l ms
among_other l n [] e = rw e refl
among_other l n (m ∷ ms) e = ap (λ (b : Bool). eqb m l || b) (among_other l n ms e)

-- numbers of a run that pass a test
none_before : (p : ℕ → Bool) (l k n : ℕ) → l < k → is_among l (filter p (numbers k n)) ≡ false
none_before p l k zero lt = refl
none_before p l k (suc n) lt =
    let ne : eqb k l ≡ false = ne_eqb k l (λ e. omega arith) in
    let rest = none_before p l (k + 1) n (omega arith) in
    elim (cases_Bool (p k)) [ inl e ↦ rw (e, ne) rest | inr e ↦ rw e rest ]

pub among_passed : (p : ℕ → Bool) (l k n : ℕ) → k ≤ l → l < k + n → is_among l (filter p (numbers k n)) ≡ p l
among_passed p l k zero low high = absurd (omega arith)
among_passed p l k (suc n) low high =
    elim (cases_Bool (eqb k l)) [
      | inl e ↦
          let same : k ≡ l = eqb-true k l e in
          elim (cases_Bool (p k)) [
            | inl q ↦ let r : p l ≡ true = ap p (sym same) ∙ q in rw (q, e) (sym r)
            | inr q ↦ let r : p l ≡ false = ap p (sym same) ∙ q in rw q (none_before p l (k + 1) n (omega arith) ∙ sym r)
          ]
      | inr e ↦
          let ne : k ≢ l = eqb-false k l e in
          let rest = among_passed p l (k + 1) n (omega arith) (omega arith) in
          elim (cases_Bool (p k)) [ inl q ↦ rw (q, e) rest | inr q ↦ rw q rest ]
    ]

once_before : (p : ℕ → Bool) (k n : ℕ) → AreOnce (filter p (numbers k n))
once_before p k zero = tt
once_before p k (suc n) =
    elim (cases_Bool (p k)) [ inl e ↦ rw e (none_before p k (k + 1) n (omega arith), once_before p (k + 1) n) | inr e ↦ rw e (once_before p (k + 1) n) ]

pub once_passed : (p : ℕ → Bool) (n : ℕ) → AreOnce (filter p (below n))
once_passed p n = once_before p 0 n
