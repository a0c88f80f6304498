-- The fields of a record, by place, and no bytes behind them.
use Rattle.records.proofs.Common.{◌≡◌, List, ℕ, [], ◌∷◌, refl, get_or, suc, zero, unwrap_or}
use Rattle.csv.specs.Records.{field_at}

pub field_there : (row : List (List ℕ)) (place : ℕ) → unwrap_or (field_at row place) [] ≡ get_or row place []
unfolding field_at
field_there [] place = refl
field_there (f ∷ row) zero = refl
field_there (f ∷ row) (suc place) = field_there row place
