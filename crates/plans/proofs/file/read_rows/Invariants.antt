use Rattle.records.proofs.Common.{map, fields_of}
use Rattle.plans.specs.{Progress.IsReadTo, Read.progress_of}
use Rattle.plans.proofs.file.read_rows.Given as goal

-- the rows before the place are read
abbrev pub invariant-loop-place : goal.invariant-loop-place
invariant-loop-place l = IsReadTo l.links l.ends (map fields_of l.rows) l.place (progress_of l.read)
