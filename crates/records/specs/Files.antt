-- Row 0 of a file and the rows behind it.
use Rattle.std.specs.Prelude.{◌≡◌, ℕ, Bool, false, not, ◌&&◌, nat_eq, nat_lt, List, [], ◌∷◌, length, drop, Option, None, Some, Result, Ok, Err}
use Rattle.limits.specs.declared.TheConstants.{MAX_FILE_BYTES}
use Rattle.edge_files.specs.declared.reasons.{Reason.Reason, RowStop.RowStop}
use Rattle.edge_files.specs.declared.reasons.Reason.TheVariants as reason
use Rattle.edge_files.specs.declared.reasons.RowStop.TheVariants as stop
use Rattle.records.specs.{Faults.least, Fields.is_header, Rows.Row, Rows.rows_of}

-- the first row is the header
abbrev pub begins_with : List (List ℕ) → List Row → Bool
begins_with names [] = false
begins_with names (row ∷ rows) = is_header names row

-- more bytes than a file may have
abbrev pub is_too_long : List ℕ → Bool
is_too_long bytes = nat_lt MAX_FILE_BYTES (length bytes)

-- the reason of row 0 where a file must have rows: too many bytes (then nothing else counts), no header, no row behind it
unfoldable pub head_reason : List (List ℕ) → List ℕ → Option Reason
head_reason names bytes = least (
    (is_too_long bytes, reason.TooLong)
    ∷ (not (begins_with names (rows_of bytes)), reason.Header)
    ∷ (nat_eq (length (rows_of bytes)) 1, reason.Empty)
    ∷ [])

-- the reason of row 0 where a file may be left out: one of no bytes has no rows, and the header may stand alone
unfoldable pub optional_head_reason : List (List ℕ) → List ℕ → Option Reason
optional_head_reason names bytes = least (
    (is_too_long bytes, reason.TooLong)
    ∷ (not (nat_eq (length bytes) 0) && not (begins_with names (rows_of bytes)), reason.Header)
    ∷ [])

-- the rows behind the header
unfoldable pub body_of : List ℕ → List Row
body_of bytes = drop 1 (rows_of bytes)

-- what is told in place of rows is the reason of row 0; want of memory tells nothing
abbrev pub TellsStop : RowStop → Option Reason → Type 0
TellsStop (stop.Fault fault) head = (fault.row ≡ 0) × (head ≡ Some fault.reason)
TellsStop stop.NoMemory head = Unit {0}

-- rows are given where row 0 has no reason, and else it is told
abbrev pub TellsHead : {A : Type 0} → Result A RowStop → Option Reason → Type 0
TellsHead (Ok rows) head = head ≡ None
TellsHead (Err stop) head = TellsStop stop head
