-- What came of a text that was to be written behind the events, and of the events of a day.
use Rattle.std.specs.Prelude.{◌≡◌, ◌≤◌, ℕ, List, [], Result, Err, IfOk, OnOk, OnErr}
use Rattle.edge_files.specs.declared.files.OutFile.TheVariants as out
use Rattle.edge_files.specs.{Causes.Rose, World.Written, World.Writes, World.WritesPart, World.byte_steps}
use Rattle.events.specs.{Lines.AreInBook, Lines.event_lines, declared.event.Book.Book, declared.event.Event.Event}
use Rattle.scoring.specs.Tables.{ScoringRows}
use Rattle.event_handler.specs.Handling.{persons_of, links_in, links_seen, HasHandled, CanHandle, IsSeen}
use Rattle.event_handler.specs.declared.handling.{EventHandler.EventHandler, SeenDay.SeenDay}
use Rattle.event_writer.specs.declared.writing.StreamError.{StreamError}
use Rattle.event_writer.specs.declared.writing.StreamError.TheVariants as error

-- it was written whole, or a front of it where a write failed or memory was wanting; the count of faults shows whether a write failed
pub record IsWritten {T : Type 0} (old new : Written) (before now : ℕ) (text : List ℕ) (result : Result T StreamError) : Type 0 where
  pub done : OnOk result (Writes old new (byte_steps out.Events text))
  pub part : OnErr result (WritesPart old new out.Events text)
  pub later : before ≤ now
  pub failed : result ≡ Err error.WriteFailed → Rose before now

-- the names of these events are in the book, and a handler that has taken no event, by these tables, can take them
pub record CanTake (scoring : ScoringRows) (book : Book) (handler : EventHandler) (events : List Event) : Type 0 where
  pub named : AreInBook events book
  pub new : HasHandled scoring handler []
  pub all : CanHandle (persons_of handler) (links_in handler) events

-- The lines of these events were written, or a front of them where a write failed or memory was wanting. What was seen, where all of
-- them were written, is what they are worth by these tables to persons whose first activities are of these kinds, what they show of the
-- cars on so many links, and how many they are.
pub record AreWritten (scoring : ScoringRows) (book : Book) (events : List Event) (kinds : List ℕ) (count : ℕ) (old new : Written)
    (before now : ℕ) (result : Result SeenDay StreamError) : Type 0 where
  pub written : IsWritten old new before now (event_lines events book) result
  pub seen : IfOk result (IsSeen scoring kinds events)
  pub links : IfOk result (λ seen. links_seen seen ≡ count)
