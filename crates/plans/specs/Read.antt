-- The values of the code as the definitions see them.
use Rattle.std.specs.Prelude.{◌≡◌, ℕ, List, map, None, Some, Result, Ok, Err}
use Rattle.edge_files.specs.declared.reasons.RowStop.{RowStop}
use Rattle.edge_files.specs.declared.reasons.RowStop.TheVariants as stop
use Rattle.records.specs.Rows.{Row}
use Rattle.rows.specs.PlanRows.{plan_rows, all_plan_rows}
use Rattle.plans.specs.{Progress.Progress, Progress.IsReadTo, Values.PlanFileRows, Values.rows_fault}
use Rattle.plans.specs.declared.{plan_file.PlanFile.PlanFile, rows_read.RowsRead.RowsRead}

-- what the rows so far give
abbrev pub progress_of : RowsRead → Progress
progress_of read = record {
  persons = read.persons;
  kinds = read.kinds;
  lines = read.lines;
  stops = read.stops;
  plans = all_plan_rows read.plans.items;
  own = map plan_rows read.own.items;
  starts = read.starts.items;
  acts = read.current.acts.items;
  legs = read.current.legs.items;
  last = read.current.last;
}

-- what a file gives
abbrev pub file_rows_of : PlanFile → PlanFileRows
file_rows_of file = record {
  persons = file.persons;
  kinds = file.kinds;
  lines = file.lines;
  stops = file.stops;
  plans = all_plan_rows file.plans;
  starts = file.starts;
}

-- the first n rows are read, or the first fault is told; want of memory tells nothing
abbrev pub Reads : Result RowsRead RowStop → List (List ℕ) → List (ℕ × ℕ) → List Row → ℕ → Type 0
Reads (Ok read) links ends rows n = IsReadTo links ends rows n (progress_of read)
Reads (Err (stop.Fault fault)) links ends rows n = rows_fault None links ends rows ≡ Some fault
Reads (Err stop.NoMemory) links ends rows n = Unit {0}
