-- What a day is scored by, with the numbers that kinds of activities have.
use Rattle.std.specs.{List.filter_map, Prelude.ℕ, Prelude.List, Prelude.Option, Prelude.option_map}
use Rattle.events.specs.Names.{number_of}
use Rattle.scoring.specs.{Tables.ScoringRows, declared.table.Table.Table}
use Rattle.settings.specs.{Scoring.ScoringValues, declared.named_tables.NamedTable.NamedTable}

-- a table with the number of its kind, where these kinds have it
abbrev pub numbered : List (List ℕ) → NamedTable → Option Table
numbered kinds table = option_map (λ kind. record { kind = kind; points = table.points; latest = table.latest }) (number_of table.kind kinds)

-- the tables of these kinds; a table for another kind is worth nothing to anybody, and is left out
unfoldable pub by_number : List (List ℕ) → ScoringValues → ScoringRows
by_number kinds scoring = record {
  tables = filter_map (numbered kinds) scoring.tables;
  modes = scoring.modes;
  late_per_second = scoring.late_per_second;
  stuck = scoring.stuck;
}
