-- What observations stand for.
use Rattle.std.specs.Prelude.{ℕ, List}
use Rattle.events.specs.declared.event.Event.{Event}
use Rattle.travel_times.specs.{Tallies.IsKnown, declared.observations.Observations.Observations}

-- how many links there are
abbrev pub links_of : Observations → ℕ
links_of known = known.links

-- what these events show of the cars on the links is known
abbrev pub Knows : Observations → List Event → Type 0
Knows known events = IsKnown known.links events known.rows.items known.entries.items
