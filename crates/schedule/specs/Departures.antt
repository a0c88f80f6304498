-- The rows of departures.csv: `departure,route,second,seats`.
use Rattle.std.specs.Prelude.{ℕ, not, ◌&&◌, ◌||◌, nat_le, nat_eq, is_none, is_some, codes, unwrap_or, List, [], ◌∷◌, length, Option}
use Rattle.limits.specs.declared.TheConstants.{LAST_SECOND, MAX_DEPARTURES, MAX_SEATS}
use Rattle.edge_files.specs.declared.reasons.{Reason.Reason, RowFault.RowFault}
use Rattle.edge_files.specs.declared.reasons.Reason.TheVariants as reason
use Rattle.events.specs.Names.{number_of}
use Rattle.records.specs.{Faults.least, Fields.field, Fields.holds_name, Files.optional_head_reason, Numbers.number_in, Reading.file_fault, Rows.Row}
use Rattle.rows.specs.declared.schedule.DepartureRow.{DepartureRow}

abbrev pub departure_header : List (List ℕ)
departure_header = codes "departure" ∷ codes "route" ∷ codes "second" ∷ codes "seats" ∷ []

-- seconds, 0 to 172,800
abbrev pub second_in : Row → Option ℕ
second_in row = number_in 0 LAST_SECOND (field row 2)

-- seats, 1 to 1,000
abbrev pub seats_in : Row → Option ℕ
seats_in row = number_in 1 MAX_SEATS (field row 3)

-- why a row of departures.csv is refused, by the names of the departures in the rows before it
unfoldable pub departure_reason : List (List ℕ) → List (List ℕ) → Row → Option Reason
departure_reason routes names row = least (
    (not (nat_eq (length row) 4), reason.FieldCount)
    ∷ (not (holds_name row 0 && holds_name row 1), reason.BadName)
    ∷ (is_none (second_in row) || is_none (seats_in row), reason.BadNumber)
    ∷ (is_some (number_of (field row 0) names), reason.Twice)
    ∷ (is_none (number_of (field row 1) routes), reason.Unknown)
    ∷ (nat_le MAX_DEPARTURES (length names), reason.TooMany)
    ∷ [])

-- the departure of a row
unfoldable pub departure_of : List (List ℕ) → Row → DepartureRow
departure_of routes row = record { route = unwrap_or (number_of (field row 1) routes) 0; second = unwrap_or (second_in row) 0; seats = unwrap_or (seats_in row) 0 }

-- the first fault of departures.csv
abbrev pub departures_fault : List (List ℕ) → List ℕ → Option RowFault
departures_fault routes bytes = file_fault (optional_head_reason departure_header bytes) 0 (departure_of routes) (λ names _. departure_reason routes names) bytes
