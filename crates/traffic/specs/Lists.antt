-- Lists without some of their elements.
use Rattle.std.specs.Prelude.{ℕ, zero, suc, ◌+◌, Bool, true, false, List, [], ◌∷◌, if◌then◌else◌}

-- whether a list has no element
abbrev pub is_nil : {X : Type 0} → List X → Bool
is_nil [] = true
is_nil (x ∷ xs) = false

-- the list without its k-th element
abbrev pub without_at : {X : Type 0} → ℕ → List X → List X
without_at k [] = []
without_at zero (x ∷ xs) = xs
without_at (suc k) (x ∷ xs) = x ∷ without_at k xs

-- the list without the k-th element that passes
abbrev pub without : {X : Type 0} → (X → Bool) → ℕ → List X → List X
without p k [] = []
without p zero (x ∷ xs) = if p x then xs else x ∷ without p zero xs
without p (suc k) (x ∷ xs) = if p x then x ∷ without p k xs else x ∷ without p (suc k) xs

-- the list with f done to its first element
abbrev pub on_front : {X : Type 0} → (X → X) → List X → List X
on_front f [] = []
on_front f (x ∷ xs) = f x ∷ xs

-- the list with f done to the first element that passes
abbrev pub with_first : {X : Type 0} → (X → Bool) → (X → X) → List X → List X
with_first p f [] = []
with_first p f (x ∷ xs) = if p x then f x ∷ xs else x ∷ with_first p f xs

-- so many numbers from k on
abbrev pub numbers : ℕ → ℕ → List ℕ
numbers k zero = []
numbers k (suc n) = k ∷ numbers (k + 1) n

-- the numbers below n
abbrev pub below : ℕ → List ℕ
below n = numbers 0 n
