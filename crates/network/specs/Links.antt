-- The rows of links.csv: `link,from,to,length,speed,capacity,lanes`.
use Rattle.std.specs.Prelude.{ℕ, Bool, not, ◌&&◌, ◌||◌, nat_le, nat_eq, is_none, is_some, codes, unwrap_or, List, [], ◌∷◌, length, Option}
use Rattle.limits.specs.declared.TheConstants.{MAX_CAPACITY, MAX_IN_LINKS, MAX_LANES, MAX_LENGTH, MAX_LINKS, MAX_SPEED}
use Rattle.edge_files.specs.declared.reasons.{Reason.Reason, RowFault.RowFault}
use Rattle.edge_files.specs.declared.reasons.Reason.TheVariants as reason
use Rattle.events.specs.Names.{number_of}
use Rattle.records.specs.{Faults.least, Fields.field, Fields.holds_name, Fields.column, Files.head_reason, Files.body_of, Numbers.number_in, Reading.file_fault}
use Rattle.records.specs.Rows.{Row}
use Rattle.rows.specs.{Networks.in_links, declared.network.LinkRow.LinkRow}
use Rattle.network.specs.declared.measures.Measures.{Measures}

abbrev pub link_header : List (List ℕ)
link_header = codes "link" ∷ codes "from" ∷ codes "to" ∷ codes "length" ∷ codes "speed" ∷ codes "capacity" ∷ codes "lanes" ∷ []

-- centimetres, 1 to 10,000,000
abbrev pub length_in : Row → Option ℕ
length_in row = number_in 1 MAX_LENGTH (field row 3)

-- centimetres a second, 1 to 10,000
abbrev pub speed_in : Row → Option ℕ
speed_in row = number_in 1 MAX_SPEED (field row 4)

-- vehicles an hour, 1 to 100,000
abbrev pub capacity_in : Row → Option ℕ
capacity_in row = number_in 1 MAX_CAPACITY (field row 5)

-- lanes, 1 to 20
abbrev pub lanes_in : Row → Option ℕ
lanes_in row = number_in 1 MAX_LANES (field row 6)

-- the numbers of a row
unfoldable pub measures_of : Row → Measures
measures_of row = record {
  length = unwrap_or (length_in row) 0;
  speed = unwrap_or (speed_in row) 0;
  capacity = unwrap_or (capacity_in row) 0;
  lanes = unwrap_or (lanes_in row) 0;
}

-- the link of a row, with the numbers of its nodes
unfoldable pub link_of : List (List ℕ) → Row → LinkRow
link_of nodes row = record {
  from = unwrap_or (number_of (field row 1) nodes) 0;
  to = unwrap_or (number_of (field row 2) nodes) 0;
  length = (measures_of row).length;
  speed = (measures_of row).speed;
  capacity = (measures_of row).capacity;
  lanes = (measures_of row).lanes;
}

-- the link or one of its nodes has no name
abbrev pub lacks_name : Row → Bool
lacks_name row = not (holds_name row 0 && holds_name row 1 && holds_name row 2)

-- the length, the speed, the capacity or the lanes are no number, or out of range
unfoldable pub has_bad_measure : Row → Bool
has_bad_measure row = is_none (length_in row) || is_none (speed_in row) || is_none (capacity_in row) || is_none (lanes_in row)

-- the node where it begins or the one where it ends does not exist
abbrev pub lacks_node : List (List ℕ) → Row → Bool
lacks_node nodes row = is_none (number_of (field row 1) nodes) || is_none (number_of (field row 2) nodes)

-- why a row of links.csv is refused, by the names and the links of the rows before it
unfoldable pub link_reason : List (List ℕ) → List (List ℕ) → List LinkRow → Row → Option Reason
link_reason nodes names links row = least (
    (not (nat_eq (length row) 7), reason.FieldCount)
    ∷ (lacks_name row, reason.BadName)
    ∷ (has_bad_measure row, reason.BadNumber)
    ∷ (is_some (number_of (field row 0) names), reason.Twice)
    ∷ (lacks_node nodes row, reason.Unknown)
    ∷ (nat_le MAX_LINKS (length names), reason.TooMany)
    ∷ (nat_le MAX_IN_LINKS (in_links links (link_of nodes row).to), reason.InLinks)
    ∷ [])

-- the first fault of links.csv
abbrev pub links_fault : List (List ℕ) → List ℕ → Option RowFault
links_fault nodes bytes = file_fault (head_reason link_header bytes) 0 (link_of nodes) (link_reason nodes) bytes

-- the names of the links, in the order of the rows
abbrev pub link_names : List ℕ → List (List ℕ)
link_names bytes = column 0 (body_of bytes)
