-- What holds of each element of a list.
use Rattle.traffic.proofs.Common.{◌≡◌, ℕ, List, length, [], ◌∷◌, ◌<◌, true, Bool, get_or, and_parts, All-from_recursion, All-get_or, list_all}
use Rattle.std.specs.List.{AllByRecursion as Each}

pub each_at : {X : Type 0} (P : X → Type 0) (xs : List X) (k : ℕ) (d : X) → k < length xs → Each P xs → P (get_or xs k d)
each_at P xs k d lt h = All-get_or P xs k d lt (All-from_recursion P xs h)

pub each_tested : {X : Type 0} (P : X → Type 0) (p : X → Bool) → ((x : X) → p x ≡ true → P x) → (xs : List X) → list_all p xs ≡ true → Each P xs
each_tested P p f [] h = tt
each_tested P p f (x ∷ xs) h = let g = and_parts (p x) (list_all p xs) h in (f x g.0, each_tested P p f xs g.1)
