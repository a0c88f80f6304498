-- The lines of events.
use Rattle.std.specs.Prelude.{◌<◌, ℕ, List, [], ◌++◌, length, codes, decimal, All, Option, None, Some}
use Rattle.std.specs.List.{flat_map}
use Rattle.events.specs.{Names.name_at, Words.word_text, Words.mode_text}
use Rattle.events.specs.declared.event.{Book.Book, Event.Event, More.More, VehicleId.VehicleId}
use Rattle.events.specs.declared.event.VehicleId.TheVariants as vehicle
use Rattle.events.specs.declared.event.More.TheVariants as more

-- the name of this number; an absent number leaves the field empty
abbrev pub name_text : List (List ℕ) → Option ℕ → List ℕ
name_text names None = []
name_text names (Some number) = name_at names number

-- a car is written as its person's name, a transit vehicle as `pt:` and its departure's name
abbrev pub vehicle_text : Book → Option VehicleId → List ℕ
vehicle_text book None = []
vehicle_text book (Some (vehicle.Car person)) = name_at book.persons person
vehicle_text book (Some (vehicle.Transit departure)) = codes "pt:" ++ name_at book.departures departure

-- the last field: a kind, a mode, seconds, a stop or a line
abbrev pub more_text : Book → More → List ℕ
more_text book more.Nothing = []
more_text book (more.Kind kind) = name_at book.kinds kind
more_text book (more.Mode mode) = mode_text mode
more_text book (more.Seconds seconds) = decimal seconds
more_text book (more.Stop stop) = name_at book.stops stop
more_text book (more.Line line) = name_at book.lines line

-- a field after the first stands behind a comma
abbrev pub field_text : List ℕ → List ℕ
field_text text = codes "," ++ text

-- the line of an event: second, word, person, vehicle, link and more, and a line feed
unfoldable pub event_line : Event → Book → List ℕ
event_line event book =
    decimal event.key.second ++ field_text (word_text event.word) ++ field_text (name_text book.persons event.person)
    ++ field_text (vehicle_text book event.vehicle) ++ field_text (name_text book.links event.link)
    ++ field_text (more_text book event.more) ++ codes "\n"

-- the lines of events, in their order
abbrev pub event_lines : List Event → Book → List ℕ
event_lines events book = flat_map (λ event. event_line event book) events

-- a number has a name in the list, where there is one
abbrev pub IsNamed : List (List ℕ) → Option ℕ → Type 0
IsNamed names None = Unit {0}
IsNamed names (Some number) = number < length names

-- a vehicle has a name in the book, where there is one
abbrev pub IsVehicleNamed : Book → Option VehicleId → Type 0
IsVehicleNamed book None = Unit {0}
IsVehicleNamed book (Some (vehicle.Car person)) = person < length book.persons
IsVehicleNamed book (Some (vehicle.Transit departure)) = departure < length book.departures

-- the number of the last field, where there is one, has a name in the book
abbrev pub IsMoreNamed : Book → More → Type 0
IsMoreNamed book more.Nothing = Unit {0}
IsMoreNamed book (more.Kind kind) = kind < length book.kinds
IsMoreNamed book (more.Mode mode) = Unit {0}
IsMoreNamed book (more.Seconds seconds) = Unit {0}
IsMoreNamed book (more.Stop stop) = stop < length book.stops
IsMoreNamed book (more.Line line) = line < length book.lines

-- every number of an event has a name in the book
pub record IsInBook (event : Event) (book : Book) : Type 0 where
  pub person : IsNamed book.persons event.person
  pub vehicle : IsVehicleNamed book event.vehicle
  pub link : IsNamed book.links event.link
  pub more : IsMoreNamed book event.more

-- every number of each event has a name in the book
abbrev pub AreInBook : List Event → Book → Type 0
AreInBook events book = All (λ event. IsInBook event book) events
