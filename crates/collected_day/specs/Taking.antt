-- Who takes the events of a day, span by span.
use Rattle.std.specs.Prelude.{◌≡◌, ℕ, ◌+◌, ◌-◌, ◌*◌, ◌<◌, ◌≤◌, List, ◌++◌}
use Rattle.events.specs.{Lines.event_lines, declared.event.Book.Book, declared.event.Event.Event}
use Rattle.event_handler.specs.Handling.{kinds_of, persons_of, links_in, HasHandled, CanHandle, IsSeen}
use Rattle.event_handler.specs.declared.handling.{EventHandler.EventHandler, SeenDay.SeenDay}
use Rattle.partition.specs.declared.owner.Owner.{Owner}
use Rattle.scoring.specs.Tables.{ScoringRows}
use Rattle.streamed_day.specs.Coming.{seconds_from}
use Rattle.town.specs.{Views.setup, declared.day_input.DayInput.DayInput}
use Rattle.collected_day.specs.{Streams.IsComing, Streams.span_length, declared.spans.TheConstants.SPAN_SECONDS, declared.taking.Taking.Taking}

-- a handler that stands for some events can handle these behind them, with some others that follow
abbrev pub CanHandleMore : ScoringRows → List Event → EventHandler → Type 0
CanHandleMore scoring events handler = (taken rest : List Event) × HasHandled scoring handler taken
    × CanHandle (persons_of handler) (links_in handler) (taken ++ events ++ rest)

-- then it stands for these as well
abbrev pub HasHandledMore : ScoringRows → List Event → EventHandler → EventHandler → Type 0
HasHandledMore scoring events old new = (taken rest : List Event) → HasHandled scoring old taken
    → CanHandle (persons_of old) (links_in old) (taken ++ events ++ rest) → HasHandled scoring new (taken ++ events)

-- a handler that stands for these as well, and is of the same persons and links
pub record HasHandledOn (scoring : ScoringRows) (events : List Event) (old new : EventHandler) : Type 0 where
  pub handled : HasHandledMore scoring events old new
  pub kinds : kinds_of new ≡ kinds_of old
  pub links : links_in new ≡ links_in old

-- this was seen of what the handler stands for, and of these behind that
abbrev pub HasSeenMore : ScoringRows → List Event → EventHandler → SeenDay → Type 0
HasSeenMore scoring events handler seen = (taken rest : List Event) → HasHandled scoring handler taken
    → CanHandle (persons_of handler) (links_in handler) (taken ++ events ++ rest)
    → IsSeen scoring (kinds_of handler) (taken ++ events) seen

-- Of a day of so many seconds all was taken that happened before x.second, which is where a span begins, or the day's end. t is that
-- second, or where that span ends.
pub record IsTaking {S : Type 0} (told : ℕ → ℕ → List Event) (day : DayInput) (owner : Owner) (end t : ℕ) (x : Taking S)
    : Type 0 where
  pub spans : ℕ
  pub coming : IsComing told day owner end spans x.gather
  pub begins : x.second < end → x.second ≡ spans * SPAN_SECONDS
  pub ended : end ≤ x.second → end ≤ spans * SPAN_SECONDS
  pub due : x.second < t → t ≡ spans * SPAN_SECONDS + span_length end spans
  pub early : x.second < t → x.second < end
  pub within : x.second ≤ t

-- all before second t was taken: the lines are those of what happened from old.second on, which the handler took
pub record HasTaken {S : Type 0} (told : ℕ → ℕ → List Event) (day : DayInput) (owner : Owner) (end t : ℕ) (scoring : ScoringRows)
    (book : Book)
    (old new : Taking S) : Type 0 where
  pub taking : IsTaking told day owner end t new
  pub second : new.second ≡ t
  pub text : new.text.items ≡ event_lines (seconds_from (setup day) old.second (t - old.second)) book
  pub handled : HasHandledMore scoring (seconds_from (setup day) old.second (t - old.second)) old.handler new.handler
  pub kinds : kinds_of new.handler ≡ kinds_of old.handler
  pub links : links_in new.handler ≡ links_in old.handler
