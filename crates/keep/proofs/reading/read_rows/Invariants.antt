use Rattle.std.proofs.Common.{◌≡◌, take, Some}
use Rattle.town.specs.Views.{rows_of}
use Rattle.keep.specs.Reading.{start, progress_of, run}
use Rattle.keep.proofs.reading.read_rows.Given as goal

-- the rows so far are read
abbrev pub invariant-loop-place : goal.invariant-loop-place
invariant-loop-place l = run (rows_of l.town) start (take l.place l.rows) ≡ Some (progress_of l.reading)
