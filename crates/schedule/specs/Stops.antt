-- The rows of stops.csv: `stop,link`.
use Rattle.std.specs.Prelude.{ℕ, not, ◌&&◌, nat_le, nat_eq, is_none, is_some, codes, unwrap_or, List, [], ◌∷◌, length, Option}
use Rattle.limits.specs.declared.TheConstants.{MAX_STOPS}
use Rattle.edge_files.specs.declared.reasons.{Reason.Reason, RowFault.RowFault}
use Rattle.edge_files.specs.declared.reasons.Reason.TheVariants as reason
use Rattle.events.specs.Names.{number_of}
use Rattle.records.specs.{Faults.least, Fields.field, Fields.holds_name, Files.optional_head_reason, Reading.file_fault, Rows.Row}
use Rattle.rows.specs.declared.schedule.StopRow.{StopRow}

abbrev pub stop_header : List (List ℕ)
stop_header = codes "stop" ∷ codes "link" ∷ []

-- why a row of stops.csv is refused, by the names of the stops in the rows before it
unfoldable pub stop_reason : List (List ℕ) → List (List ℕ) → Row → Option Reason
stop_reason links names row = least (
    (not (nat_eq (length row) 2), reason.FieldCount)
    ∷ (not (holds_name row 0 && holds_name row 1), reason.BadName)
    ∷ (is_some (number_of (field row 0) names), reason.Twice)
    ∷ (is_none (number_of (field row 1) links), reason.Unknown)
    ∷ (nat_le MAX_STOPS (length names), reason.TooMany)
    ∷ [])

-- the stop of a row
unfoldable pub stop_of : List (List ℕ) → Row → StopRow
stop_of links row = record { link = unwrap_or (number_of (field row 1) links) 0 }

-- the first fault of stops.csv
abbrev pub stops_fault : List (List ℕ) → List ℕ → Option RowFault
stops_fault links bytes = file_fault (optional_head_reason stop_header bytes) 0 (stop_of links) (λ names _. stop_reason links names) bytes
