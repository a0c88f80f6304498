-- Rows read one after the other, each by itself, the names of the rows before it and what these gave.
use Rattle.std.specs.Prelude.{ℕ, List, [], length, take, get_or, map, Option}
use Rattle.edge_files.specs.declared.reasons.{Reason.Reason, RowFault.RowFault}
use Rattle.records.specs.{Faults.first_fault, Fields.column, Files.body_of, Rows.Row}

-- the reason of the row at a place, by the names that the rows before it have in a column and by the values of these rows
abbrev pub reason_after : {X : Type 0} → ℕ → (Row → X) → (List (List ℕ) → List X → Row → Option Reason) → List Row → ℕ → Option Reason
reason_after key value reason rows place = reason (column key (take place rows)) (map value (take place rows)) (get_or rows place [])

-- the first fault of a file, by the reason of its row 0 and its rows behind it
unfoldable pub body_fault : {X : Type 0} → Option Reason → ℕ → (Row → X) → (List (List ℕ) → List X → Row → Option Reason) → List Row → Option RowFault
body_fault head key value reason rows = first_fault head (reason_after key value reason rows) (length rows)

-- the same, of the bytes of a file
abbrev pub file_fault : {X : Type 0} → Option Reason → ℕ → (Row → X) → (List (List ℕ) → List X → Row → Option Reason) → List ℕ → Option RowFault
file_fault head key value reason bytes = body_fault head key value reason (body_of bytes)
