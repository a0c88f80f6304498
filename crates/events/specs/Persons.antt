-- The events of a person, and of his trips.
use Rattle.std.specs.Prelude.{ℕ, Bool, true, false, ◌==◌, List, filter, Option, None, Some}
use Rattle.events.specs.declared.event.{Event.Event, Word.Word}
use Rattle.events.specs.declared.event.Word.TheVariants as word

-- whether a field of an event names person i
abbrev pub names : ℕ → Option ℕ → Bool
names i None = false
names i (Some j) = j == i

-- the events of a person: those that name him in their field of a person
abbrev pub of_person : ℕ → Event → Bool
of_person i e = names i e.person

abbrev pub own_events : ℕ → List Event → List Event
own_events i es = filter (of_person i) es

-- the words of a trip: the activity before it ends, its leg departs, arrives or is stuck, and the activity after it starts
abbrev pub is_step : Word → Bool
is_step word.ActEnd = true
is_step word.Departure = true
is_step word.Arrival = true
is_step word.ActStart = true
is_step word.StuckAndAbort = true
is_step _ = false
