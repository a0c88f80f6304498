-- A list of which one place was set, and ascending lists.
use Rattle.std.proofs.Common.{◌≡◌, ◌≢◌, ℕ, zero, suc, ◌<◌, ◌≤◌, List, length, set, slice_index_or, sym, ap, ◌∙◌, subst, arith, get_or-set_same}
use Rattle.std.proofs.Common.{get_or-set_other}
use mathlib.Core.Logic.{dite}
use native.Mathlib.Decide.{ℕ_discrete, dec_lt}

module _ {X : Type 0} where
  pub set_same : (old new : List X) (k : ℕ) (x d : X) → new ≡ set old k x → k < length old → slice_index_or new k d ≡ x
  set_same old new k x d e lt = ap (λ z. slice_index_or z k d) e ∙ get_or-set_same old k x d lt

  pub set_other : (old new : List X) (k j : ℕ) (x d : X) → new ≡ set old k x → j ≢ k
      → slice_index_or new j d ≡ slice_index_or old j d
  set_other old new k j x d e ne = ap (λ z. slice_index_or z j d) e ∙ get_or-set_other old k j x d ne

-- two ascending lists of the same rows are one
module _ (n m : ℕ) (f g a b : ℕ → ℕ) (up : (j k : ℕ) → j < k → k < n → f j < f k)
    (climbs : (j k : ℕ) → j < k → k < m → a j < a k)
    (there : (k : ℕ) → k < n → (j : ℕ) × (j < m) × (a j ≡ f k) × (b j ≡ g k))
    (back : (k : ℕ) → k < m → (j : ℕ) × (j < n) × (f j ≡ a k) × (g j ≡ b k)) where
  abbrev Same : ℕ → Type 0
  Same k = (k < m) × (f k ≡ a k) × (g k ≡ b k)

  abbrev SameTo : ℕ → Type 0
  SameTo k = (j : ℕ) → j < k → Same j

  same_next : (k : ℕ) → k < n → SameTo k → Same k
  same_next k lt before = let w = there k lt in let i : ℕ = w.0 in let im : i < m = w.1 in let fe = w.2 in
      let ik : k ≤ i = dite (dec_lt i k) (λ l. let s = (before i l).1 in let u = up i k l lt in absurd (omega arith))
      (λ ge. omega arith) in
      let km : k < m = omega arith in
      let v = back k km in let j : ℕ = v.0 in let jn : j < n = v.1 in let ae = v.2 in
      let kj : k ≤ j = dite (dec_lt j k) (λ l. let s = (before j l).1 in let u = climbs j k l km in absurd (omega arith))
      (λ ge. omega arith) in
      let is : i ≡ k = dite (ℕ_discrete i k) (λ e. e) (λ ne. let u = climbs k i (omega arith) im in absurd (dite (ℕ_discrete j k)
      (λ e. let z = ap f e in omega arith) (λ nj. let z = up k j (omega arith) jn in omega arith))) in
      (km, sym w.2 ∙ ap a is, sym w.3 ∙ ap b is)

  same_to : (k : ℕ) → k ≤ n → SameTo k
  same_to zero le = λ j lt. absurd (omega arith)
  same_to (suc k) le = let u = same_to k (omega arith) in λ j lt. dite (ℕ_discrete j k)
      (λ e. subst Same (sym e) (same_next k (omega arith) u)) (λ ne. u j (omega arith))

  pub same_rows : (k : ℕ) → k < n → Same k
  same_rows k lt = same_to n (omega arith) k lt
