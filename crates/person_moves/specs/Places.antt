-- Where in a list an element stands.
use Rattle.std.specs.Prelude.{ℕ, ◌+◌, ◌-◌, Bool, List, [], ◌∷◌, nat_eq, if◌then◌else◌, Option, None, Some}

-- the place of the k-th element that passes, where the first element has place i
unfoldable pub place_from : {X : Type 0} → (X → Bool) → ℕ → ℕ → List X → Option ℕ
place_from p k i [] = None
place_from p k i (x ∷ xs) = if p x then (if nat_eq k 0 then Some i else place_from p (k - 1) (i + 1) xs) else place_from p k (i + 1) xs
