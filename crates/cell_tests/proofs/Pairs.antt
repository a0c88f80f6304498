-- The pairs of a ring.
use Rattle.std.proofs.Common.{◌≡◌, ℕ, zero, suc, ◌+◌, ◌-◌, ◌<◌, ◌≤◌, List, [], ◌∷◌, ◌++◌, length, sym, ap, ◌∙◌, subst, length-append, arith}
use Rattle.std.proofs.Math.{ListN.get_or-append, Seq.get_or-append_seam}
use mathlib.Core.Logic.{dite}
use native.Mathlib.Decide.{ℕ_discrete}
use Rattle.cells.specs.Pairs.{Pair, pair_at, no_pair, IsPair, ArePairs}

module _ (count a b : ℕ) where
  -- the pair of the first and the last partition, and the first n of the others
  pub record AreRing (n : ℕ) (xs : List Pair) : Type 0 where
    pub long : length xs ≡ n + 1
    pub ends : pair_at xs 0 ≡ (0, count - 1, b, a)
    pub steps : (k : ℕ) → k < n → pair_at xs (k + 1) ≡ (k, k + 1, a, b)

  pub ring_one : (xs ys : List Pair) → xs ≡ [] → ys ≡ xs ++ (0, count - 1, b, a) ∷ [] → AreRing 0 ys
  ring_one xs ys none is = let x : Pair = (0, count - 1, b, a) in let one : ys ≡ x ∷ [] = is ∙ ap (λ z. z ++ x ∷ []) none in
      record { long = ap length one; ends = ap (λ z. pair_at z 0) one; steps = λ k lt. absurd (omega arith) }

  pub ring_more : (n : ℕ) (xs ys : List Pair) → AreRing n xs → ys ≡ xs ++ (n, n + 1, a, b) ∷ [] → AreRing (n + 1) ys
  ring_more n xs ys r is =
      let x : Pair = (n, n + 1, a, b) in let l = r.long in
      let old : (k : ℕ) → k < length xs → pair_at ys k ≡ pair_at xs k = λ k lt. ap (λ z. pair_at z k) is
      ∙ get_or-append xs (x ∷ []) no_pair k lt in
      record {
        long = ap length is ∙ length-append xs (x ∷ []) ∙ ap (λ z. z + 1) l;
        ends = old 0 (omega arith) ∙ r.ends;
        steps = λ k lt. dite (ℕ_discrete k n)
            (λ e. let place : k + 1 ≡ length xs = omega arith in
            ap (pair_at ys) place ∙ ap (λ z. pair_at z (length xs)) is ∙ get_or-append_seam xs x [] no_pair
            ∙ ap (λ z. (z, z + 1, a, b)) (sym e))
            (λ ne. old (k + 1) (omega arith) ∙ r.steps k (omega arith));
      }

  pub ring_is : 3 ≤ count → (xs : List Pair) → AreRing (count - 1) xs → 1 ≤ a → a ≤ 32 → 1 ≤ b → b ≤ 32 → ArePairs count xs
  ring_is many xs r a1 a32 b1 b32 = record { each = each; distinct = distinct }
    where
      each : (k : ℕ) → k < length xs → IsPair count (pair_at xs k)
      each zero lt = subst (IsPair count) (sym r.ends) (omega arith, omega arith, b1, b32, a1, a32)
      each (suc k) lt = let l = r.long in let s : suc k ≡ k + 1 = omega arith in
          subst (IsPair count) (sym (ap (pair_at xs) s ∙ r.steps k (omega arith))) (omega arith, omega arith, a1, a32, b1, b32)

      at : (k : ℕ) → suc k < length xs → pair_at xs (suc k) ≡ (k, k + 1, a, b)
      at k lt = let l = r.long in let s : suc k ≡ k + 1 = omega arith in ap (pair_at xs) s ∙ r.steps k (omega arith)

      distinct : (i j : ℕ) → i < j → j < length xs → (pair_at xs i).0 ≡ (pair_at xs j).0 → (pair_at xs i).1 ≡ (pair_at xs j).1 → ⊥
      distinct i zero lt lj e f = omega arith
      distinct zero (suc j) lt lj e f = let y = at j lj in let x = r.ends in
          let p = ap (λ (z : Pair). z.0) x in let q = ap (λ (z : Pair). z.1) x in let u = ap (λ (z : Pair). z.0) y in
          let v = ap (λ (z : Pair). z.1) y in omega arith
      distinct (suc i) (suc j) lt lj e f = let y = at j lj in let x = at i (omega arith) in
          let p = ap (λ (z : Pair). z.0) x in let u = ap (λ (z : Pair). z.0) y in omega arith
