-- What a handler of events stands for.
use Rattle.std.specs.{List.All, Prelude.◌≡◌, Prelude.ℕ, Prelude.List, Prelude.length, Prelude.map}
use Rattle.events.specs.declared.event.Event.{Event}
use Rattle.scoring.specs.{Ranges.IsWithin, Tables.ScoringRows, Taken.first_kind_of, declared.TheConstants.MAX_SCORE}
use Rattle.day_scores.specs.{Scores.scores_of, Standing.StandFor, Standing.AreScored}
use Rattle.travel_times.specs.{Known.Knows, Known.links_of, Observed.AreInOrder, Observed.AreOnLinks}
use Rattle.event_handler.specs.{Counts.AreCounted, declared.handling.EventHandler.EventHandler, declared.handling.SeenDay.SeenDay}

-- the kind of each person's first activity, how many persons there are, and how many links
abbrev pub kinds_of : EventHandler → List ℕ
kinds_of handler = map first_kind_of handler.scorers

abbrev pub persons_of : EventHandler → ℕ
persons_of handler = length handler.scorers

abbrev pub links_in : EventHandler → ℕ
links_in handler = links_of handler.known

-- how many links were looked at
abbrev pub links_seen : SeenDay → ℕ
links_seen seen = links_of seen.known

-- by these tables the handler stands for these events
pub record HasHandled (scoring : ScoringRows) (handler : EventHandler) (events : List Event) : Type 0 where
  pub scored : StandFor scoring handler.scorers events
  pub seen : Knows handler.known events
  pub counted : AreCounted handler.counts events

-- a day of so many persons and links can be handled: it can be scored, its events come in order, and their links are among these
pub record CanHandle (persons links : ℕ) (events : List Event) : Type 0 where
  pub scored : AreScored persons events
  pub order : AreInOrder events
  pub on_links : AreOnLinks links events

-- what was seen of these events, by these tables and of persons whose first activities are of these kinds
pub record IsSeen (scoring : ScoringRows) (kinds : List ℕ) (events : List Event) (seen : SeenDay) : Type 0 where
  pub scores : seen.scores.items ≡ scores_of scoring kinds events
  pub within : All (IsWithin MAX_SCORE) seen.scores.items
  pub known : Knows seen.known events
  pub counts : AreCounted seen.counts events
