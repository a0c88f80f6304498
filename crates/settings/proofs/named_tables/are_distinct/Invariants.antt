use Rattle.std.proofs.Common.{◌≡◌, drop, map}
use Rattle.events.specs.Names.{are_distinct}
use Rattle.settings.specs.NamedTables.{kind_name}
use Rattle.settings.proofs.named_tables.are_distinct.Given as goal

abbrev pub invariant-loop-place : goal.invariant-loop-place
invariant-loop-place l = are_distinct (map kind_name l.tables) ≡ are_distinct (map kind_name (drop l.place l.tables))
