-- Rows read one after the other.
use Rattle.records.proofs.Common.{◌≡◌, List, ℕ, length, map, [], ◌<◌, None, ◌++◌, ◌∷◌, refl, ◌+◌, get_or, take, map-append, take_more}
use Rattle.records.proofs.Common.{number_of, with_name, field, column, Row}
use Rattle.events.proofs.NameLists.{no_number-absent}

-- the values of the rows so far, one more row read
pub map_more : {A : Type 0} (value : Row → A) (rows : List Row) (n : ℕ) → n < length rows → map value (take (n + 1) rows) ≡ map value (take n rows) ++ value (get_or rows n []) ∷ []
map_more value rows n less = rw (take_more rows n [] less, map-append value (take n rows)) refl

-- a name that is not held goes last
pub with_fresh : (names : List (List ℕ)) (name : List ℕ) → number_of name names ≡ None → with_name names name ≡ names ++ name ∷ []
with_fresh names name fresh = rw (no_number-absent names name fresh) refl

-- the names in a column so far, where the row's name is a new one
pub column_more : (place : ℕ) (rows : List Row) (names : List (List ℕ)) (n : ℕ) → n < length rows → names ≡ column place (take n rows) → number_of (field (get_or rows n []) place) names ≡ None
    → with_name names (field (get_or rows n []) place) ≡ column place (take (n + 1) rows)
column_more place rows names n less is fresh =
    rw (with_fresh names (field (get_or rows n []) place) fresh, is, map_more (λ row. field row place) rows n less) refl
