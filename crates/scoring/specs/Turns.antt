-- The five words that score, and their order in a person's day.
use Rattle.std.specs.Prelude.{◌≡◌, Bool, true, false, List, [], ◌∷◌, map, filter}
use Rattle.events.specs.{Persons.is_step, declared.event.Event.Event, declared.event.More.More, declared.event.Word.Word}
use Rattle.events.specs.declared.event.More.TheVariants as more
use Rattle.events.specs.declared.event.Word.TheVariants as word

-- the five words of some events, in the order of the events
abbrev pub steps : List Event → List Word
steps events = filter is_step (map (λ (e : Event). e.word) events)

-- the word that comes right before each of the five, round after round: a stuck person is one who would have arrived
abbrev pub word_before : Word → Word
word_before word.ActEnd = word.ActStart
word_before word.Departure = word.ActEnd
word_before word.Arrival = word.Departure
word_before word.StuckAndAbort = word.Departure
word_before word.ActStart = word.Arrival
word_before other = other

-- behind a word these words come in turn; nothing comes behind a stuck person
unfoldable pub Follow : Word → List Word → Type 0
Follow last [] = Unit {0}
Follow last (next ∷ words) = (word_before next ≡ last) × Follow next words

-- the five words of a person's events come in turn, from an activity that has begun on
abbrev pub InTurn : List Event → Type 0
InTurn events = Follow word.ActStart (steps events)

-- whether an event tells what it is scored by: a departure its mode, the start of an activity its kind
abbrev pub tells : Word → More → Bool
tells word.Departure (more.Mode mode) = true
tells word.Departure _ = false
tells word.ActStart (more.Kind kind) = true
tells word.ActStart _ = false
tells _ _ = true
