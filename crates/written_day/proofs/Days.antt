-- A day that comes from somewhere is written as that day.
use Rattle.std.proofs.Common.{◌≡◌, ℕ, List, Result, sym, subst, subst₂}
use Rattle.edge_files.specs.World.{Written}
use Rattle.events.specs.declared.event.{Book.Book, Event.Event}
use Rattle.scoring.specs.Tables.{ScoringRows}
use Rattle.event_handler.specs.declared.handling.{EventHandler.EventHandler, SeenDay.SeenDay}
use Rattle.event_writer.specs.{Writing.CanTake, Writing.AreWritten, declared.writing.StreamError.StreamError}

pub takes_as : (R : ScoringRows) (book : Book) (handler : EventHandler) (rest events : List Event) → rest ≡ events
    → CanTake R book handler events → CanTake R book handler rest
takes_as R book handler rest events same takes = subst (CanTake R book handler) (sym same) takes

pub written_as : (R : ScoringRows) (book : Book) (rest events : List Event) (kinds : List ℕ) (count : ℕ) (old now : Written)
    (before faults : ℕ) (result : Result SeenDay StreamError) → rest ≡ events
    → AreWritten R book rest kinds count old now before faults result → AreWritten R book events kinds count old now before faults result
written_as R book rest events kinds count old now before faults result same did =
    subst (λ (l : List Event). AreWritten R book l kinds count old now before faults result) same did

-- of persons whose first activities are of the same kinds, and of as many links
pub written_for : (R : ScoringRows) (book : Book) (events : List Event) (kinds others : List ℕ) (count links : ℕ) (old now : Written)
    (before faults : ℕ) (result : Result SeenDay StreamError) → kinds ≡ others → count ≡ links
    → AreWritten R book events kinds count old now before faults result → AreWritten R book events others links old now before faults result
written_for R book events kinds others count links old now before faults result same equal did =
    subst₂ (λ (ks : List ℕ) (n : ℕ). AreWritten R book events ks n old now before faults result) same equal did
