-- What becomes of a day that is to be written.
use Rattle.std.specs.Prelude.{ℕ, List, Result}
use Rattle.edge_files.specs.World.{Written}
use Rattle.event_handler.specs.declared.handling.{EventHandler.EventHandler, SeenDay.SeenDay}
use Rattle.event_writer.specs.{Writing.CanTake, Writing.AreWritten, declared.writing.StreamError.StreamError}
use Rattle.scoring.specs.Tables.{ScoringRows}
use Rattle.town.specs.{Views.setup, declared.day_input.DayInput.DayInput}
use Rattle.traffic.specs.Day.{day}

-- a handler that has taken no event, by these tables, can take those of a day
abbrev pub CanTakeDay : ScoringRows → EventHandler → DayInput → Type 0
CanTakeDay scoring handler d = CanTake scoring d.town.now.book handler (day (setup d))

-- The events of a day were written and handled, or a front of their lines was written. So many links were looked at, by persons whose first
-- activities are of these kinds.
abbrev pub IsDayWritten : DayInput → ScoringRows → List ℕ → ℕ → Written → Written → ℕ → ℕ → Result SeenDay StreamError → Type 0
IsDayWritten d scoring kinds count old new before now result =
    AreWritten scoring d.town.now.book (day (setup d)) kinds count old new before now result
