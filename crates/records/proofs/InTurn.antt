-- Rows are read in turn, up to the first fault.
use Rattle.records.proofs.{Columns.map_more, Columns.column_more, Common.◌≡◌, Common.List, Common.ap}
use Rattle.records.proofs.Common.{ℕ, length, ◌∙◌, arith, map, [], ◌<◌, sym, None, Some, ◌++◌, ◌∷◌, Option, ◌+◌, get_or, ◌≤◌, take, Err, Ok, Result}
use Rattle.records.proofs.Common.{length-map, get_or-map, take_all, fields_of, ByteRecord, Reason, RowStop, number_of, with_name, Answers, first_fault, field}
use Rattle.records.proofs.{Common.column, Common.body_of, Common.TellsStop, Common.body_fault, Common.Row, Faulty.none_of_none, Faulty.one_more}
use Rattle.records.{proofs.Faulty.fault_here, proofs.Faulty.answers_head, specs.Faults.unless, specs.Reading.reason_after, specs.Reading.file_fault}
use Rattle.std.proofs.lemmas.List.{length-take}
use Rattle.edge_files.specs.declared.reasons.RowStop.TheVariants as stop

-- the first n rows have no fault, and these are their names and values
pub record IsReadTo {X : Type 0} (key : ℕ) (value : Row → X) (reason : List (List ℕ) → List X → Row → Option Reason) (records : List ByteRecord) (n : ℕ) (names : List (List ℕ)) (values : List X) : Type 0 where
  pub none : first_fault None (reason_after key value reason (map fields_of records)) n ≡ None
  pub named : names ≡ column key (take n (map fields_of records))
  pub valued : values ≡ map value (take n (map fields_of records))

-- the fields of the record at a place
pub row_at : (records : List ByteRecord) (n : ℕ) (row : ByteRecord) → n < length records → row ≡ get_or records n row → get_or (map fields_of records) n [] ≡ fields_of row
row_at records n row less is = get_or-map fields_of records n row [] less ∙ ap fields_of (sym is)

reason_of : {X : Type 0} (o : Option Reason) (value v : X) → Ok v ≡ unless o value → (o ≡ None) × (v ≡ value)
reason_of o value v h = (grind arith, grind arith)

why_of : {X : Type 0} (o : Option Reason) (value : X) (why : Reason) → Err why ≡ unless o value → o ≡ Some why
why_of o value why h = grind arith

pub read_none : {X : Type 0} (key : ℕ) (value : Row → X) (reason : List (List ℕ) → List X → Row → Option Reason) (records : List ByteRecord) (names : List (List ℕ)) (values : List X) → names ≡ [] → values ≡ []
    → IsReadTo key value reason records 0 names values
read_none key value reason records names values no_names no_values =
    record { none = none_of_none (reason_after key value reason (map fields_of records)); named = no_names; valued = no_values }

-- one more row is read
pub read_more : {X : Type 0} (key : ℕ) (value : Row → X) (reason : List (List ℕ) → List X → Row → Option Reason) (records : List ByteRecord) (n : ℕ) (names names' : List (List ℕ)) (values values' : List X) (row : ByteRecord) (v : X)
    → IsReadTo key value reason records n names values → n < length records → row ≡ get_or records n row → Ok v ≡ unless (reason names values (fields_of row)) (value (fields_of row))
    → number_of (field (fields_of row) key) names ≡ None → names' ≡ with_name names (field (fields_of row) key) → values' ≡ values ++ v ∷ [] → IsReadTo key value reason records (n + 1) names' values'
read_more {X = X} key value reason records n names names' values values' row v before less is found fresh named pushed =
    let rows : List Row = map fields_of records in
    let same = row_at records n row less is in
    let within : n < length rows = omega (arith, length-map records fields_of) in
    let good = reason_of (reason names values (fields_of row)) (value (fields_of row)) v found in
    record {
      none = one_more (reason_after key value reason rows) n before.none
          (rw (same, ← before.named, ← before.valued) good.0);
      named = rw (named, ← same) (column_more key rows names n within before.named (rw same fresh));
      valued = rw (pushed, before.valued, map_more value rows n within, same, good.1);
    }

-- a row with a reason is the first fault
pub read_fault : {A B X : Type 0} (view : A → B) (answer : B) (key : ℕ) (value : Row → X) (reason : List (List ℕ) → List X → Row → Option Reason) (records : List ByteRecord) (n : ℕ) (names : List (List ℕ)) (values : List X) (row : ByteRecord) (why : Reason) (told : RowStop)
    → IsReadTo key value reason records n names values → n < length records → row ≡ get_or records n row → Err why ≡ unless (reason names values (fields_of row)) (value (fields_of row))
    → told ≡ stop.Fault (record { row = n + 1; reason = why }) → Answers view (Err told) (body_fault None key value reason (map fields_of records)) answer
unfolding body_fault
read_fault {X = X} view answer key value reason records n names values row why told before less is found tells =
    let rows : List Row = map fields_of records in
    let same = row_at records n row less is in
    let within : n < length rows = omega (arith, length-map records fields_of) in
    let first = fault_here (reason_after key value reason rows) n (length rows) why within before.none
    (rw (same, ← before.named, ← before.valued) (why_of _ _ why found)) in
    rw tells first

-- all rows are read
pub read_all : {X : Type 0} (key : ℕ) (value : Row → X) (reason : List (List ℕ) → List X → Row → Option Reason) (records : List ByteRecord) (n : ℕ) (names : List (List ℕ)) (values : List X)
    → IsReadTo key value reason records n names values → n ≡ length records
    → (body_fault None key value reason (map fields_of records) ≡ None) × (names ≡ column key (map fields_of records)) × (values ≡ map value (map fields_of records))
unfolding body_fault
read_all key value reason records n names values read end =
    let rows : List Row = map fields_of records in
    let whole : take n rows ≡ rows = take_all n rows (omega (arith, length-map records fields_of)) in
    (rw (length-map records fields_of, ← end) read.none, rw whole at read.named, rw whole at read.valued)

-- what is answered of the rows behind a header without fault is answered of the file; the values may depend on all the rows
pub answers_body : {A B X : Type 0} (view : A → B) (answer : Result A RowStop) (head : Option Reason) (key : ℕ) (value : List Row → Row → X) (reason : List (List ℕ) → List X → Row → Option Reason) (bytes : List ℕ) (rows : List Row) (read : List Row → B)
    → head ≡ None → rows ≡ body_of bytes → Answers view answer (body_fault None key (value rows) reason rows) (read rows) → Answers view answer (file_fault head key (value (body_of bytes)) reason bytes) (read (body_of bytes))
answers_body view answer head key value reason bytes rows read good same answers =
    rw (good, ← same) answers

-- the same, where the values are those of each row alone
pub answers_file : {A B X : Type 0} (view : A → B) (answer : Result A RowStop) (head : Option Reason) (key : ℕ) (value : Row → X) (reason : List (List ℕ) → List X → Row → Option Reason) (bytes : List ℕ) (rows : List Row) (read : List Row → B)
    → head ≡ None → rows ≡ body_of bytes → Answers view answer (body_fault None key value reason rows) (read rows) → Answers view answer (file_fault head key value reason bytes) (read (body_of bytes))
answers_file view answer head key value = answers_body view answer head key (λ _. value)

-- there are as many names as rows read, and as values
pub read_count : {X : Type 0} (key : ℕ) (value : Row → X) (reason : List (List ℕ) → List X → Row → Option Reason) (records : List ByteRecord) (n : ℕ) (names : List (List ℕ)) (values : List X)
    → IsReadTo key value reason records n names values → n ≤ length records → (length names ≡ n) × (length values ≡ n)
read_count key value reason records n names values read within =
    let rows : List Row = map fields_of records in
    let count : length (take n rows) ≡ n = omega (arith, length-take n rows, length-map records fields_of) in
    (ap length read.named ∙ length-map (take n rows) (λ row. field row key) ∙ count, ap length read.valued ∙ length-map (take n rows) value ∙ count)

-- what is told of row 0 is told of the file
pub answers_stop : {A B X : Type 0} (view : A → B) (answer : B) (key : ℕ) (value : Row → X) (reason : List (List ℕ) → List X → Row → Option Reason) (bytes : List ℕ) (told : RowStop) (head : Option Reason)
    → TellsStop told head → Answers view (Err told) (file_fault head key value reason bytes) answer
unfolding body_fault
answers_stop view answer key value reason bytes told head tells =
    answers_head view told head (reason_after key value reason (body_of bytes)) (length (body_of bytes)) answer tells
