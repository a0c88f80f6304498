-- The first fault of a file: the least row that has a reason, and the least of its reasons.
use Rattle.std.specs.Prelude.{◌≡◌, ℕ, zero, suc, Bool, if◌then◌else◌, List, [], ◌∷◌, Option, None, Some, Result, Ok, Err}
use Rattle.edge_files.specs.declared.reasons.{Reason.Reason, RowFault.RowFault, RowStop.RowStop}
use Rattle.edge_files.specs.declared.reasons.RowStop.TheVariants as stop

-- the first of two reasons or faults that is there
abbrev pub or_else : {A : Type 0} → Option A → Option A → Option A
or_else None b = b
or_else (Some a) b = Some a

-- the fault of a row, where it has a reason
abbrev pub fault_at : ℕ → Option Reason → Option RowFault
fault_at row None = None
fault_at row (Some reason) = Some (record { row = row; reason = reason })

-- the first fault of the rows below n, where each row is given its least reason
abbrev pub first_below : (ℕ → Option Reason) → ℕ → Option RowFault
first_below reasons zero = None
first_below reasons (suc n) = or_else (first_below reasons n) (fault_at n (reasons n))

-- the first reason that applies, of reasons in the order of their numbers
abbrev pub least : List (Bool × Reason) → Option Reason
least [] = None
least (test ∷ tests) = if test.0 then Some test.1 else least tests

-- the reason of each row of a file: row 0 has its own, and the rows behind it are counted from 0
abbrev pub behind_head : Option Reason → (ℕ → Option Reason) → ℕ → Option Reason
behind_head head reasons zero = head
behind_head head reasons (suc n) = reasons n

-- the first fault of a file, by the reason of its row 0 and those of the rows behind it
unfoldable pub first_fault : Option Reason → (ℕ → Option Reason) → ℕ → Option RowFault
first_fault head reasons count = first_below (behind_head head reasons) (suc count)

-- the value where nothing is wrong, and else what is wrong
abbrev pub unless : {A E : Type 0} → Option E → A → Result A E
unless None value = Ok value
unless (Some error) value = Err error

-- what a reader answers: the view of what it read where the file has no fault, else the first fault; want of memory may come at any time
abbrev pub Answers : {A B : Type 0} → (A → B) → Result A RowStop → Option RowFault → B → Type 0
Answers view (Ok read) fault value = (fault ≡ None) × (view read ≡ value)
Answers view (Err (stop.Fault told)) fault value = fault ≡ Some told
Answers view (Err stop.NoMemory) fault value = Unit {0}
