-- What is told of one file, and of files one after the other.
use Rattle.scenario.proofs.Common.{◌≡◌, List, ℕ, refl, None, Option, Some, [], Result, unwrap_or, InFile, RowFault, or_else, StopsAt, Tells, fault_in, in_file}
use Rattle.scenario.{proofs.Common.Texts, proofs.Common.bytes_in, specs.Faults.text_fault}
use Rattle.scenario.specs.{Faults.with_file, Faults.first_of, Faults.TellsFile, declared.faults.ScenarioFault.ScenarioFault, declared.faults.Stop.Stop}
use Rattle.std.proofs.Common.{Ok, Err, IfOk, ◌∷◌, zero, suc, arith}
use Rattle.std.specs.List.{All}
use Rattle.edge_files.specs.declared.reasons.Reason.TheVariants as reason
use Rattle.edge_files.specs.declared.reasons.RowStop.{RowStop}
use Rattle.edge_files.specs.declared.reasons.RowStop.TheVariants as row_stop
use Rattle.records.{proofs.Unrefused.or_none, specs.Faults.Answers}
use Rattle.scenario.specs.declared.faults.Stop.TheVariants as stop

-- ONE FILE
-- a file whose bytes are read
module _ {A B : Type 0} (view : A → B) (T : Texts) (file : InFile) (fault : List ℕ → Option RowFault) (value : List ℕ → B) where
  -- a file that is too long
  pub told_long : (s : Stop) → T file ≡ None → s ≡ stop.Fault (record { file = file; row = 0; reason = reason.TooLong }) → TellsFile view (Err s) T file fault value
  unfolding TellsFile
  told_long s none is = rw (is, none) refl

  read_told : (bytes : List ℕ) (read : Result A RowStop) → T file ≡ Some bytes → Answers view read (fault bytes) (value bytes) → Tells view (with_file file read) (fault_in T file fault) (value (bytes_in T file))
  unfolding with_file
  read_told bytes (Ok read) same answer = (rw (same, answer.0) refl, rw same answer.1)
  read_told bytes (Err (row_stop.Fault found)) same answer = rw (same, answer) refl
  read_told bytes (Err row_stop.NoMemory) same answer = tt

  pub told_in : (bytes : List ℕ) (found : Option RowFault) (given : B) (read : Result A RowStop) (told : Result A Stop) → told ≡ with_file file read → T file ≡ Some bytes
      → Answers view read found given → fault bytes ≡ found → value bytes ≡ given → TellsFile view told T file fault value
  unfolding TellsFile
  told_in bytes found given read told is same answer fault_is value_is = rw is (read_told bytes read same (rw (fault_is, value_is) answer))

-- what holds of what was read of a file
module _ {A : Type 0} (file : InFile) (P : A → Type 0) where
  with_known : (read : Result A RowStop) → IfOk read P → IfOk (with_file file read) P
  unfolding with_file
  with_known (Ok read) known = known
  with_known (Err why) known = tt

  pub known_in : (read : Result A RowStop) (told : Result A Stop) → told ≡ with_file file read → IfOk read P → IfOk told P
  known_in read told is known = rw is (with_known read known)

-- a file has no fault where its bytes have none
pub file_none : (file : InFile) (fault : Option RowFault) → in_file file fault ≡ None → fault ≡ None
file_none file None none = refl
file_none file (Some fault) none = cc

text_free : (fault : List ℕ → Option RowFault) (text : Option (List ℕ)) → text_fault fault text ≡ None → fault (unwrap_or text []) ≡ None
text_free fault None none = cc
text_free fault (Some bytes) none = none

-- a file without a fault is not too long, and its bytes have none
pub bytes_free : (T : Texts) (file : InFile) (fault : List ℕ → Option RowFault) → fault_in T file fault ≡ None → fault (bytes_in T file) ≡ None
bytes_free T file fault none = text_free fault (T file) (file_none file (text_fault fault (T file)) none)

-- the first of two is told
pub first_stop : (s : Stop) (a b : Option ScenarioFault) → StopsAt s a → StopsAt s (or_else a b)
first_stop (stop.Fault told) a b h = rw h
first_stop stop.NoMemory a b h = tt

-- the second one is, where the first has no fault
pub later_stop : (s : Stop) (a b : Option ScenarioFault) → a ≡ None → StopsAt s b → StopsAt s (or_else a b)
later_stop s a b none h = rw none h

-- neither has one
pub both_none : (a b : Option ScenarioFault) → a ≡ None → b ≡ None → or_else a b ≡ None
both_none a b none h = rw none h

-- of faults of which there is no first one none is there
pub none_of : (faults : List (Option ScenarioFault)) → first_of faults ≡ None → All (λ fault. fault ≡ None) faults
none_of (fault ∷ faults) none zero d less = (or_none fault (first_of faults) none).0
none_of (fault ∷ faults) none (suc k) d less = none_of faults (or_none fault (first_of faults) none).1 k d (omega arith)
none_of [] none k d less = absurd (omega arith)

-- and where none is there, there is no first one
pub all_none : (faults : List (Option ScenarioFault)) → All (λ fault. fault ≡ None) faults → first_of faults ≡ None
all_none [] none = refl
all_none (fault ∷ faults) none = both_none fault (first_of faults) (none 0 None (omega arith)) (all_none faults (λ k d less. none (suc k) d (omega arith)))

-- what a file by itself tells, and what holds of what was read of it
pub ruleset of_file = (told_long, told_in, known_in)

-- what files tell that are read one after the other
pub ruleset in_turn = (first_stop, later_stop, both_none)
