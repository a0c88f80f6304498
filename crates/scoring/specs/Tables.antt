-- What activities, legs and lateness are worth by the tables and modes.
use Rattle.std.specs.Prelude.{ℕ, ◌-◌, nat_eq, List, slice_get, find, Option, option_and_then, ℤ, pos, ◌+ℤ◌, ◌*ℤ◌}
use Rattle.std.specs.Option.{option_map_or}
use Rattle.events.specs.declared.event.Mode.{Mode}
use Rattle.events.specs.declared.event.Mode.TheVariants as mode
use Rattle.scoring.specs.{Points.value, declared.table.ModeScore.ModeScore, declared.table.Table.Table, declared.tables.Tables.Tables}

-- what a day is scored by: tables for kinds of activities, what a leg is worth by each of the five modes, in their order, and what each
-- second adds by which an activity begins late, and what being stuck adds, in micro-utils
pub record ScoringRows : Type 0 where
  pub tables : List Table
  pub modes : List ModeScore
  pub late_per_second : ℤ
  pub stuck : ℤ

abbrev pub scoring_rows : Tables → ScoringRows
scoring_rows tables = record { tables = tables.tables; modes = tables.modes; late_per_second = tables.late_per_second; stuck = tables.stuck }

-- the table of a kind of activity
abbrev pub table_of : List Table → ℕ → Option Table
table_of tables kind = find (λ (t : Table). nat_eq t.kind kind) tables

-- what an activity of a kind is worth that takes so many seconds; a kind without a table is worth nothing
unfoldable pub activity_worth : List Table → ℕ → ℕ → ℤ
activity_worth tables kind seconds = option_map_or (λ (t : Table). value t.points seconds) (table_of tables kind) (pos 0)

-- the place of a mode among the modes
abbrev pub place_of : Mode → ℕ
place_of mode.Car = 0
place_of mode.Walk = 1
place_of mode.Bike = 2
place_of mode.Ride = 3
place_of mode.Pt = 4

-- what a leg by a mode is worth that takes so many seconds: the mode's constant, and so much for each second
unfoldable pub leg_worth : List ModeScore → Mode → ℕ → ℤ
leg_worth modes mode seconds =
    option_map_or (λ (m : ModeScore). m.constant +ℤ m.per_second *ℤ pos seconds) (slice_get modes (place_of mode)) (pos 0)

-- the last second in which an activity of a kind begins in time
abbrev pub latest_of : List Table → ℕ → Option ℕ
latest_of tables kind = option_and_then (λ (t : Table). t.latest) (table_of tables kind)

-- how many seconds late an activity of a kind begins
unfoldable pub seconds_late : List Table → ℕ → ℕ → ℕ
seconds_late tables kind second = option_map_or (λ latest. second - latest) (latest_of tables kind) 0
