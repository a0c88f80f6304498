-- The values of the settings of scores.
use Rattle.std.specs.Prelude.{ℕ, Bool, not, codes, List, [], unwrap_or, Option, option_and_then, ℤ, pos, neg_ℤ}
use Rattle.scoring.specs.declared.table.ModeScore.{ModeScore}
use Rattle.serde_json.specs.{Data.Members, Find.get_member}
use Rattle.settings.specs.{Looking.members_of, Looking.signed, Modes.modes_in, NamedTables.given_tables, NamedTables.are_right}
use Rattle.settings.specs.declared.{costs.Costs.Costs, costs.Scoring.Scoring, named_tables.NamedTable.NamedTable}

-- what it costs to be late and to be stuck, and what a leg by each mode is worth, in micro-utils
pub record CostValues : Type 0 where
  pub modes : List ModeScore
  pub late_per_second : ℤ
  pub stuck : ℤ

-- what a day is scored by: these, and tables by the names of kinds of activities
pub record ScoringValues : Type 0 where
  pub tables : List NamedTable
  pub modes : List ModeScore
  pub late_per_second : ℤ
  pub stuck : ℤ

-- the number that a key is given, which may be below zero
abbrev pub given_signed : List ℕ → Members → Option ℤ
given_signed name members = option_and_then signed (get_member name members)

-- the modes: without the key all are as usual
abbrev pub modes_given : Members → List ModeScore
modes_given members = unwrap_or (modes_in (members_of (get_member (codes "modes") members))) []

-- the tables: without the key there are none
abbrev pub tables_given : Members → List NamedTable
tables_given members = unwrap_or (given_tables (get_member (codes "tables") members)) []

unfoldable pub costs_in : Members → CostValues
costs_in members = record {
  modes = modes_given members;
  late_per_second = unwrap_or (given_signed (codes "late_per_second") members) (neg_ℤ (pos 5000));
  stuck = unwrap_or (given_signed (codes "stuck") members) (neg_ℤ (pos 100000000));
}

abbrev pub with_tables : CostValues → List NamedTable → ScoringValues
with_tables costs tables = record { tables = tables; modes = costs.modes; late_per_second = costs.late_per_second; stuck = costs.stuck }

abbrev pub scoring_in : Members → ScoringValues
scoring_in members = with_tables (costs_in members) (tables_given members)

-- a table has no points, more than 32 or such at seconds that do not rise, or a kind has two tables
unfoldable pub has_wrong_table : Members → Bool
has_wrong_table members = not (are_right (tables_given members))

-- the same of what was read
abbrev pub costs_of : Costs → CostValues
costs_of costs = record { modes = costs.modes; late_per_second = costs.late_per_second; stuck = costs.stuck }

abbrev pub scoring_of : Scoring → ScoringValues
scoring_of scoring = record { tables = scoring.tables; modes = scoring.modes; late_per_second = scoring.late_per_second; stuck = scoring.stuck }
