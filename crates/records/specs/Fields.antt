-- The fields of a row.
use Rattle.std.specs.Prelude.{ℕ, ◌+◌, Bool, true, ◌&&◌, nat_eq, bytes_eq, List, [], ◌∷◌, length, get_or, map}
use Rattle.events.specs.Names.{is_name}
use Rattle.records.specs.Rows.{Row}

-- the field at a place, or no bytes where the row is too short
abbrev pub field : Row → ℕ → List ℕ
field row place = get_or row place []

-- the field at a place is a name
abbrev pub holds_name : Row → ℕ → Bool
holds_name row place = is_name (field row place)

-- the field at a place is empty
abbrev pub is_blank : Row → ℕ → Bool
is_blank row place = nat_eq (length (field row place)) 0

-- from a place on the fields are these texts
unfoldable pub are_fields : List (List ℕ) → ℕ → Row → Bool
are_fields [] place row = true
are_fields (name ∷ names) place row = bytes_eq (field row place) name && are_fields names (place + 1) row

-- the fields are these texts, in this order and no others
abbrev pub is_header : List (List ℕ) → Row → Bool
is_header names row = nat_eq (length row) (length names) && are_fields names 0 row

-- the fields at a place, of each row
abbrev pub column : ℕ → List Row → List (List ℕ)
column place rows = map (λ row. field row place) rows
