-- The first fault of the files.
use Rattle.std.specs.Prelude.{◌≡◌, ℕ, List, [], ◌∷◌, Option, None, Some, Result, Ok, Err}
use Rattle.edge_files.specs.declared.{files.InFile.InFile, reasons.RowFault.RowFault, reasons.RowStop.RowStop}
use Rattle.edge_files.specs.declared.reasons.Reason.TheVariants as reason
use Rattle.edge_files.specs.declared.reasons.RowStop.TheVariants as row_stop
use Rattle.records.specs.Faults.{fault_at, or_else}
use Rattle.scenario.specs.{Texts.Texts, Texts.bytes_in, declared.faults.ScenarioFault.ScenarioFault, declared.faults.Stop.Stop}
use Rattle.scenario.specs.declared.faults.Stop.TheVariants as stop

-- the fault of a file by that of its bytes: one that is too long has this fault alone
abbrev pub text_fault : (List ℕ → Option RowFault) → Option (List ℕ) → Option RowFault
text_fault fault None = fault_at 0 (Some reason.TooLong)
text_fault fault (Some bytes) = fault bytes

-- a fault with its file
abbrev pub in_file : InFile → Option RowFault → Option ScenarioFault
in_file file None = None
in_file file (Some fault) = Some (record { file = file; row = fault.row; reason = fault.reason })

-- the first fault of a file by itself
abbrev pub fault_in : Texts → InFile → (List ℕ → Option RowFault) → Option ScenarioFault
fault_in T file fault = in_file file (text_fault fault (T file))

-- the first of these faults, where there is one
abbrev pub first_of : List (Option ScenarioFault) → Option ScenarioFault
first_of [] = None
first_of (fault ∷ faults) = or_else fault (first_of faults)

-- why a file was not read, with the file
abbrev pub error_in : InFile → RowStop → Stop
error_in file (row_stop.Fault fault) = stop.Fault (record { file = file; row = fault.row; reason = fault.reason })
error_in file row_stop.NoMemory = stop.NoMemory

-- what was read of a file, or why it was not, with the file
unfoldable pub with_file : {A : Type 0} → InFile → Result A RowStop → Result A Stop
with_file file (Ok read) = Ok read
with_file file (Err why) = Err (error_in file why)

-- the stop is this fault; want of memory may come at any time
abbrev pub StopsAt : Stop → Option ScenarioFault → Type 0
StopsAt (stop.Fault told) fault = fault ≡ Some told
StopsAt stop.NoMemory fault = Unit {0}

-- what reading files answers: the view of what was read where they have no fault, and else their first fault
abbrev pub Tells : {A B : Type 0} → (A → B) → Result A Stop → Option ScenarioFault → B → Type 0
Tells view (Ok read) fault value = (fault ≡ None) × (view read ≡ value)
Tells view (Err stop) fault value = StopsAt stop fault

-- the same of one file, by the fault and the value of its bytes
unfoldable pub TellsFile : {A B : Type 0} → (A → B) → Result A Stop → Texts → InFile → (List ℕ → Option RowFault) → (List ℕ → B) → Type 0
TellsFile view result T file fault value = Tells view result (fault_in T file fault) (value (bytes_in T file))
