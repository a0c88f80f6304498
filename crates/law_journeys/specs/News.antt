-- What a day tells, second by second.
use Rattle.std.specs.Prelude.{ℕ, zero, suc, ◌+◌, List, [], ◌++◌, map}
use Rattle.events.specs.declared.event.Event.{Event}
use Rattle.traffic.specs.{Day.second_events, Day.world_at, Setup.Setup}
use Rattle.traffic.specs.declared.moves.Occurrence.{Occurrence}

-- an event without its place among those of its second
pub record News : Type 0 where
  pub second : ℕ
  pub what : Occurrence

abbrev pub news_of : Event → News
news_of e =
    record { second = e.key.second; what = record { word = e.word; person = e.person; vehicle = e.vehicle; link = e.link; more = e.more } }

abbrev pub news : List Event → List News
news es = map news_of es

-- the events of n seconds of the day, from second t on
unfoldable pub events_in_seconds : Setup → ℕ → ℕ → List Event
events_in_seconds S t zero = []
events_in_seconds S t (suc n) = events_in_seconds S t n ++ second_events S (t + n) (world_at S (t + n))
