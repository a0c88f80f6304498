-- Who is woken in a second, as those of all numbers that pass the test.
use Rattle.std.proofs.Common.{◌≡◌, ℕ, suc, ◌+◌, ◌<◌, Bool, true, false, inl, inr, List, [], ◌∷◌, length, get_or, refl, ap, sym, ◌∙◌, arith}
use Rattle.std.{proofs.lemmas.Bool.cases_Bool, specs.Prelude.filter, specs.Prelude.Option, specs.Prelude.None}
use Rattle.calendar.specs.Waking.{is_second, is_woken, woken_from, woken}

-- so many numbers from one on, whatever they are called
pub record AreNumbers (numbers : ℕ → ℕ → List ℕ) : Type 0 where
  pub none : (n : ℕ) → numbers n 0 ≡ []
  pub more : (n count : ℕ) → numbers n (suc count) ≡ n ∷ numbers (n + 1) count

woken_numbers : (numbers : ℕ → ℕ → List ℕ) (t n : ℕ) (p : ℕ → Bool) (due : List (Option ℕ)) → AreNumbers numbers
    → ((k : ℕ) → k < length due → p (n + k) ≡ is_second t (get_or due k None)) → woken_from t n due ≡ filter p (numbers n (length due))
unfolding woken_from
woken_numbers numbers t n p [] are h = let e = are.none n in rw e refl
woken_numbers numbers t n p (d ∷ due) are h =
    let z : n + 0 ≡ n = omega arith in
    let s : suc n ≡ n + 1 = omega arith in
    let first : p n ≡ is_second t d = ap p (sym z) ∙ h 0 (omega arith) in
    let rest : woken_from t (suc n) due ≡ filter p (numbers (n + 1) (length due))
    = woken_numbers numbers t (suc n) p due are (λ k lt. (let y : suc n + k ≡ n + suc k = omega arith in ap p y ∙ h (suc k) (omega arith)))
    ∙ ap (λ (m : ℕ). filter p (numbers m (length due))) s in
    let split : filter p (numbers n (suc (length due))) ≡ filter p (n ∷ numbers (n + 1) (length due)) = ap (filter p) (are.more n (length due)) in
    elim (cases_Bool (is_second t d)) [
      | inl q ↦ let r : p n ≡ true = first ∙ q in rw q (ap (λ (xs : List ℕ). n ∷ xs) rest ∙ sym (split ∙ (rw r refl)))
      | inr q ↦ let r : p n ≡ false = first ∙ q in rw q (rest ∙ sym (split ∙ (rw r refl)))
    ]

-- those who are woken are those of all numbers of the table that are
pub woken_is : (numbers : ℕ → ℕ → List ℕ) (t : ℕ) (due : List (Option ℕ)) → AreNumbers numbers
    → woken t due ≡ filter (is_woken t due) (numbers 0 (length due))
woken_is numbers t due are =
    woken_numbers numbers t 0 (is_woken t due) due are (λ k lt. (let z : 0 + k ≡ k = omega arith in ap (is_woken t due) z))
