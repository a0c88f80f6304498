-- signals.csv of a grid: no bytes.
use Rattle.records.proofs.Common.{◌≡◌, List, ℕ, None, [], refl, rows_of, body_of, optional_head_reason, first_fault}
use Rattle.csv.specs.{Machine.next_record, Reading.records_from, Reading.strip_bom}
use Rattle.signals.specs.{Rows.with_rows, Signals.clash_fault, Signals.first_clash, Signals.rows_fault, Signals.signal_rows_of, Signals.signals_fault}

-- no bytes are signals without a fault
pub signals_pass : (links : List (List ℕ)) (ends : List (ℕ × ℕ)) → signals_fault links ends [] ≡ None
unfolding rows_fault body_of rows_of strip_bom records_from next_record optional_head_reason first_fault
signals_pass links ends = refl

-- and they have no conflict of which both links are green
pub no_clash : (links : List (List ℕ)) → clash_fault (signal_rows_of links (body_of [])) ≡ None
unfolding body_of rows_of strip_bom records_from next_record with_rows first_clash
no_clash links = refl
