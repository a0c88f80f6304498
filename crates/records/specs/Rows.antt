-- The rows of a file of comma-separated fields.
use Rattle.std.specs.Prelude.{ℕ, List}
use Rattle.csv.specs.Reading.{records, default_config, strip_bom}

-- a row's fields, each a list of bytes
abbrev pub Row : Type 0
Row = List (List ℕ)

-- the records of the bytes (RFC 4180 as the crate `csv` reads it, without a byte order mark), the header among them
unfoldable pub rows_of : List ℕ → List Row
rows_of bytes = records default_config (strip_bom bytes)
