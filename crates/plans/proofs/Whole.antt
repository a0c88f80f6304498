-- The header and the rows behind it.
use Rattle.records.proofs.Common.{◌≡◌, List, ℕ, length, arith, [], ◌<◌, None, ◌∷◌, refl, Option, false, drop, not, Err, Result, nat_eq, Reason, RowStop}
use Rattle.records.proofs.Common.{Answers, body_of, head_reason, TellsStop, Row, rows_of}
use Rattle.records.{proofs.Faulty.answers_head, specs.Files.begins_with}
use Rattle.plans.proofs.Passing.{three_none}
use Rattle.plans.specs.{Read.file_rows_of, Values.PlanFileRows, Values.reason_at, Values.rows_fault, Values.values_of, declared.plan_file.PlanFile.PlanFile}

some_behind : (names : List (List ℕ)) (rows : List Row) → not (begins_with names rows) ≡ false → nat_eq (length rows) 1 ≡ false → 0 < length (drop 1 rows)
some_behind names [] begins more = cc
some_behind names (row ∷ []) begins more = cc
some_behind names (row ∷ next ∷ rows) begins more = omega arith

-- a row stands behind a header that has no reason
pub body_some : (names : List (List ℕ)) (bytes : List ℕ) → head_reason names bytes ≡ None → 0 < length (drop 1 (rows_of bytes))
unfolding head_reason
body_some names bytes h =
    let free = three_none _ _ _ _ _ _ _ h in some_behind names (rows_of bytes) free.1 free.2

-- what is answered of the rows is answered of the file
pub answers_rows : (result : Result PlanFile RowStop) (head : Option Reason) (links : List (List ℕ)) (ends : List (ℕ × ℕ)) (bytes : List ℕ) (rows : List Row) → head ≡ None → rows ≡ body_of bytes
    → Answers file_rows_of result (rows_fault None links ends rows) (values_of links rows) → Answers file_rows_of result (rows_fault head links ends (body_of bytes)) (values_of links (body_of bytes))
answers_rows result head links ends bytes rows good same answers = rw good (rw same at answers)

-- what is told of row 0 is told of the file
pub answers_stop : (told : RowStop) (head : Option Reason) (links : List (List ℕ)) (ends : List (ℕ × ℕ)) (rows : List Row) (value : PlanFileRows) → TellsStop told head → Answers file_rows_of (Err told) (rows_fault head links ends rows) value
unfolding rows_fault
answers_stop told head links ends rows value tells = answers_head file_rows_of told head (reason_at links ends rows) (length rows) value tells

pub body_is : (bytes : List ℕ) → drop 1 (rows_of bytes) ≡ body_of bytes
unfolding body_of
body_is bytes = refl
