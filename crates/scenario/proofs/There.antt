-- The numbers of names are below how many names there are.
use Rattle.std.proofs.Common.{◌≡◌, ℕ, zero, suc, ◌<◌, List, [], ◌∷◌, length, Option, Some, sym, ap, ◌∙◌}
use Rattle.records.proofs.Numbering.{numbered_within}
use Rattle.scenario.specs.Legs.{number_at, numbers_in}

found_there : (names town : List (List ℕ)) (n k : ℕ) → number_at (numbers_in names town) n ≡ Some k → k < length town
unfolding numbers_in
found_there [] town n k h = cc
found_there (name ∷ names) town zero k h = numbered_within town name k h
found_there (name ∷ names) town (suc n) k h = found_there names town n k h

pub are_there : (names town : List (List ℕ)) (numbers : List (Option ℕ)) → numbers ≡ numbers_in names town → (n k : ℕ) → number_at numbers n ≡ Some k → k < length town
are_there names town numbers same n k h = found_there names town n k (ap (λ (ns : List (Option ℕ)). number_at ns n) (sym same) ∙ h)
