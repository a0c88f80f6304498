-- The rows of nodes.csv: `node,x,y`.
use Rattle.std.specs.Prelude.{ℕ, ℤ, pos, Bool, not, ◌||◌, nat_le, nat_eq, is_none, is_some, codes, unwrap_or, List, [], ◌∷◌, length, Option}
use Rattle.limits.specs.declared.TheConstants.{MAX_COORDINATE, MAX_NODES}
use Rattle.edge_files.specs.declared.reasons.{Reason.Reason, RowFault.RowFault}
use Rattle.edge_files.specs.declared.reasons.Reason.TheVariants as reason
use Rattle.events.specs.Names.{number_of}
use Rattle.records.specs.{Faults.least, Fields.field, Fields.holds_name, Fields.column, Files.head_reason, Files.body_of, Numbers.signed_in, Reading.file_fault}
use Rattle.records.specs.Rows.{Row}
use Rattle.rows.specs.declared.network.NodeRow.{NodeRow}

abbrev pub node_header : List (List ℕ)
node_header = codes "node" ∷ codes "x" ∷ codes "y" ∷ []

-- a coordinate: a number from -1,000,000,000 to 1,000,000,000
abbrev pub coordinate : List ℕ → Option ℤ
coordinate bytes = signed_in MAX_COORDINATE bytes

-- a coordinate of the row is no number, or out of its range
abbrev pub has_bad_coordinate : Row → Bool
has_bad_coordinate row = is_none (coordinate (field row 1)) || is_none (coordinate (field row 2))

-- why a row of nodes.csv is refused, by the names of the nodes in the rows before it
unfoldable pub node_reason : List (List ℕ) → Row → Option Reason
node_reason names row = least (
    (not (nat_eq (length row) 3), reason.FieldCount)
    ∷ (not (holds_name row 0), reason.BadName)
    ∷ (has_bad_coordinate row, reason.BadNumber)
    ∷ (is_some (number_of (field row 0) names), reason.Twice)
    ∷ (nat_le MAX_NODES (length names), reason.TooMany)
    ∷ [])

-- the node of a row
unfoldable pub node_of : Row → NodeRow
node_of row = record { x = unwrap_or (coordinate (field row 1)) (pos 0); y = unwrap_or (coordinate (field row 2)) (pos 0) }

-- the first fault of nodes.csv
abbrev pub nodes_fault : List ℕ → Option RowFault
nodes_fault bytes = file_fault (head_reason node_header bytes) 0 node_of (λ names _. node_reason names) bytes

-- the names of the nodes, in the order of the rows
abbrev pub node_names : List ℕ → List (List ℕ)
node_names bytes = column 0 (body_of bytes)
