use Rattle.std.proofs.Common.{◌≡◌, map, take, Some}
use Rattle.serde_json.specs.View.{view}
use Rattle.settings.specs.{Looking.all_of, NamedTables.point_in}
use Rattle.settings.proofs.named_tables.points_of.Given as goal

abbrev pub invariant-loop-item : goal.invariant-loop-item
invariant-loop-item l = all_of (map (λ v. point_in (view v)) (take l.item-index l.items)) ≡ Some l.rows.items
