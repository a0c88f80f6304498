-- Rows of which each has a name.
use Rattle.std.specs.Prelude.{ℕ, List}
use Rattle.records.specs.declared.table.Table.{Table}

-- the names, and the values of the rows
abbrev pub table_lists : {T : Type 0} → Table T → List (List ℕ) × List T
table_lists table = (table.names, table.rows.items)
