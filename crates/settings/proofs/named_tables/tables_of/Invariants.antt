use Rattle.std.proofs.Common.{◌≡◌, map, take, length, Some}
use Rattle.serde_json.specs.View.{view}
use Rattle.settings.specs.{Looking.all_of, NamedTables.table_in}
use Rattle.settings.proofs.named_tables.tables_of.Given as goal

abbrev pub invariant-loop-value : goal.invariant-loop-value
invariant-loop-value l =
    (all_of (map (λ v. table_in (view v)) (take l.value-index l.values)) ≡ Some l.rows.items) × (length l.rows.items ≡ l.value-index)
