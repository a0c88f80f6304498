use Rattle.records.proofs.InTurn.{IsReadTo}
use Rattle.records.proofs.table_read.read_body.Given as goal

abbrev pub invariant-loop-place : goal.invariant-loop-place
invariant-loop-place g l = IsReadTo 0 (g.R.RowReader.value l.reader) (λ names _. g.R.RowReader.reason l.reader names) l.rows l.place l.names l.values.items
