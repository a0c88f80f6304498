-- What was seen of the day of an iteration.
use Rattle.std.specs.Prelude.{◌≡◌, ℕ, List, length, All}
use Rattle.events.specs.declared.event.Event.{Event}
use Rattle.scoring.specs.{Ranges.IsWithin, declared.TheConstants.MAX_SCORE}
use Rattle.travel_times.specs.{Known.Knows, Known.links_of, Observed.AreOnLinks, declared.observations.Observations.Observations}
use Rattle.event_handler.specs.{Counts.AreCounted, declared.handling.SeenDay.SeenDay}
use Rattle.plan_memory.specs.Memories.{MemoryRows}
use Rattle.iterations.specs.{Days.events_of, Days.scores_in, Runs.RunRows}

-- observations of so many links know what these events show, and all of these are on their links
pub record AreObserved (links : ℕ) (events : List Event) (observations : Observations) : Type 0 where
  pub known : Knows observations events
  pub count : links_of observations ≡ links
  pub on_links : AreOnLinks (links_of observations) events

-- Each person has the score of the day, within its limits; travel times are known by its events, on the links of the town; and these
-- are counted.
pub record IsSeenOf (R : RunRows) (iteration : ℕ) (memories : List MemoryRows) (seen : SeenDay) : Type 0 where
  pub scores : seen.scores.items ≡ scores_in R iteration memories
  pub each : length seen.scores.items ≡ length R.town.book.persons
  pub within : All (IsWithin MAX_SCORE) seen.scores.items
  pub observed : AreObserved (length R.town.links) (events_of R iteration memories) seen.known
  pub counts : AreCounted seen.counts (events_of R iteration memories)
