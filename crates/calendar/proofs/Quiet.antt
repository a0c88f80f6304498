-- A second in which nothing is due, or nobody is woken: taking it changes nothing.
use Rattle.std.proofs.Common.{◌≡◌, ℕ, suc, inl, inr, List, [], ◌∷◌, refl, ap, ◌∙◌}
use Rattle.std.proofs.lemmas.Bool.{cases_Bool, eqb-true}
use Rattle.std.specs.Prelude.{map, ◌==◌, Option}
use Rattle.calendar.specs.{Due.Due, Due.HasNone, Due.due_at, Waking.is_second, Waking.slept, Waking.woken_from}

-- what is taken of a second in which nothing is due is nothing
pub none_taken : (t : ℕ) (due : Due) → due_at t due ≡ [] → HasNone t due due
none_taken t due e = λ u.
    elim (cases_Bool (u == t)) [
      | inl q ↦ rw q (ap (λ (s : ℕ). due_at s due) (eqb-true u t q) ∙ e)
      | inr q ↦ rw q refl
    ]

-- nobody's second changes when those of a second are woken, who are none
pub none_sleep : (t n : ℕ) (wakes : List (Option ℕ)) → woken_from t n wakes ≡ [] → wakes ≡ map (slept t) wakes
unfolding woken_from
none_sleep t n [] e = refl
none_sleep t n (w ∷ wakes) e =
    elim (cases_Bool (is_second t w)) [
      | inl q ↦ absurd (let f : n ∷ woken_from t (suc n) wakes ≡ [] = (rw q at e) in cc)
      | inr q ↦
          let f : woken_from t (suc n) wakes ≡ [] = (rw q at e) in
          rw q (ap (λ (ws : List (Option ℕ)). w ∷ ws) (none_sleep t (suc n) wakes f))
    ]
