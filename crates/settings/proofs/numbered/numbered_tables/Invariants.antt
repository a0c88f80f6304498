use Rattle.std.{proofs.Common.◌≡◌, specs.List.filter_map}
use Rattle.settings.specs.Numbered.{numbered}
use Rattle.settings.proofs.numbered.numbered_tables.Given as goal

-- the tables so far are numbered
abbrev pub invariant-loop-table : goal.invariant-loop-table
invariant-loop-table l = l.rows.items ≡ filter_map (numbered l.kinds) l.yielded
