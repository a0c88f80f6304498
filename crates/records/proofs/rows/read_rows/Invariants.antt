use Rattle.records.proofs.Common.{◌≡◌, List, ℕ, map, ◌<◌, Some, Reached, strip_bom, fields_of}
use Rattle.csv.specs.Reading.{Ready, default_config, source_of}
use Rattle.csv.specs.declared.parser.State.TheVariants as st
use Rattle.csv.specs.declared.reader.Trim.TheVariants as trim
use Rattle.records.proofs.rows.read_rows.Given as goal

-- the rows so far are the records of the bytes that were taken, and the reader goes on behind them
abbrev pub invariant-loop-row : goal.invariant-loop-row
invariant-loop-row l = (l.row-iterator.rdr.trim ≡ trim.None) × Ready l.row-iterator.rdr × (0 < l.row-iterator.left) × (l.row-iterator.rdr.config ≡ default_config)
    × (rest : List ℕ) × (source_of (λ s. Some s.now) l.row-iterator.rdr ≡ Some rest)
    × Reached default_config st.StartRecord (strip_bom l.fn.bytes) (map fields_of l.rows.items) l.row-iterator.rdr.state rest
