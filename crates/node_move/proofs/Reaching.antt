-- Where blocks begin, where it can be said of one block more.
use Rattle.std.proofs.Common.{◌≡◌, ℕ, zero, suc, List, [], ◌∷◌, ◌++◌, get_or, refl}

pub reached : (starts : List ℕ) (q : ℕ) → get_or (starts ++ 0 ∷ []) q 0 ≡ get_or starts q 0
reached [] zero = refl
reached [] (suc q) = refl
reached (x ∷ xs) zero = refl
reached (x ∷ xs) (suc q) = reached xs q
