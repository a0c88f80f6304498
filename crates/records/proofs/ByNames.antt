-- What is told of a file of which each row is read by itself and by the names of those before it.
use Rattle.records.proofs.Common.{◌≡◌, List, ℕ, map, None, Option, Err, Result, Reason, RowStop, Answers, column, body_of, TellsStop, body_fault, Row}
use Rattle.records.proofs.InTurn.{answers_file, answers_stop}
use Rattle.records.specs.{Reading.file_fault, Tables.table_lists, declared.table.Table.Table}

-- a reason that the values before a row do not change
abbrev pub by_names : {X : Type 0} → (List (List ℕ) → Row → Option Reason) → List (List ℕ) → List X → Row → Option Reason
by_names reason names values row = reason names row

module _ {X : Type 0} (reason : List (List ℕ) → Row → Option Reason) (value : Row → X) (head : Option Reason) (bytes : List ℕ) where
  abbrev lists : List Row → List (List ℕ) × List X
  lists rows = (column 0 rows, map value rows)

  pub table_told : (answer : Result (Table X) RowStop) (rows : List Row) → head ≡ None → rows ≡ body_of bytes
      → Answers table_lists answer (body_fault None 0 value (by_names reason) rows) (column 0 rows, map value rows)
      → Answers table_lists answer (file_fault head 0 value (by_names reason) bytes) (column 0 (body_of bytes), map value (body_of bytes))
  table_told answer rows good same told = answers_file table_lists answer head 0 value (by_names reason) bytes rows lists good same told

  pub head_told : (told : RowStop) → TellsStop told head
      → Answers table_lists (Err told) (file_fault head 0 value (by_names reason) bytes) (column 0 (body_of bytes), map value (body_of bytes))
  head_told told tells = answers_stop table_lists (lists (body_of bytes)) 0 value (by_names reason) bytes told head tells
