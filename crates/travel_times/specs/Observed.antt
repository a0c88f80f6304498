-- What the events of a day show of travel times. A car is observed on a link where it enters the link and the next event that tells
-- of the car is that it leaves this link. Transit vehicles are not observed, since they dwell.
use Rattle.std.specs.{List.cons_option, Option.option_eq}
use Rattle.std.specs.Prelude.{ℕ, ◌≤◌, ◌-◌, ◌/◌, ◌<◌, max, nat_eq, sum, Bool, true, false, ◌&&◌, if◌then◌else◌, List, [], ◌∷◌, length, find, All, AllPairs}
use Rattle.std.specs.Prelude.{slice_index_or, Option, None, Some, option_and_then, IfSome}
use Rattle.events.specs.declared.event.{Event.Event, VehicleId.VehicleId, Word.Word}
use Rattle.events.specs.declared.event.VehicleId.TheVariants as vehicle
use Rattle.events.specs.declared.event.Word.TheVariants as word
use Rattle.rows.specs.declared.network.LinkRow.{LinkRow}
use Rattle.travel_times.specs.{Times.free_of, declared.TheConstants.BIN_SECONDS}

-- no event comes before an earlier one of the list
abbrev pub AreInOrder : List Event → Type 0
AreInOrder events = AllPairs (λ a b. a.key.second ≤ b.key.second) events

-- the link of each event that has one is among so many links
abbrev pub AreOnLinks : ℕ → List Event → Type 0
AreOnLinks links events = All (λ event. IfSome event.link (λ link. link < links)) events

-- the person whose car it is
abbrev pub car_of : Option VehicleId → Option ℕ
car_of None = None
car_of (Some (vehicle.Car person)) = Some person
car_of (Some (vehicle.Transit departure)) = None

-- the event tells of this person's car
abbrev pub tells_of : ℕ → Event → Bool
tells_of car event = option_eq nat_eq (car_of event.vehicle) (Some car)

abbrev pub is_entry : Word → Bool
is_entry word.EnteredLink = true
is_entry other = false

abbrev pub is_exit : Word → Bool
is_exit word.LeftLink = true
is_exit other = false

-- a vehicle enters the link
abbrev pub enters : ℕ → Event → Bool
enters link event = is_entry event.word && option_eq nat_eq event.link (Some link)

-- a vehicle leaves the link
abbrev pub leaves : ℕ → Event → Bool
leaves link event = is_exit event.word && option_eq nat_eq event.link (Some link)

-- the bin of an event
abbrev pub bin_of : Event → ℕ
bin_of event = event.key.second / BIN_SECONDS

-- the seconds from this event on after which a car is known to leave the link: the next event that tells of it is that it does
abbrev pub seconds_until : ℕ → ℕ → ℕ → List Event → Option ℕ
seconds_until link second car later =
    option_and_then (λ next. if leaves link next then Some (next.key.second - second) else None) (find (tells_of car) later)

-- the seconds that a car is observed on the link, where the event is that it enters in this bin
abbrev pub observed_from : ℕ → ℕ → Event → List Event → Option ℕ
observed_from link bin event later =
    if enters link event && nat_eq (bin_of event) bin then option_and_then (λ car. seconds_until link event.key.second car later)
    (car_of event.vehicle) else None

-- the observed seconds of all cars that enter the link in this bin, in the order in which they enter
unfoldable pub observed : ℕ → ℕ → List Event → List ℕ
observed link bin [] = []
observed link bin (event ∷ later) = cons_option (observed_from link bin event later) (observed link bin later)

-- the average of so many cars that took so many seconds together, without its fraction but one second at least; where there is no
-- car the link is free
abbrev pub average_or : ℕ → ℕ → ℕ → ℕ
average_or free cars seconds = if nat_eq cars 0 then free else max 1 (seconds / cars)

-- the link of this number; one that is not there takes a second
abbrev pub link_at : List LinkRow → ℕ → LinkRow
link_at links link = slice_index_or links link (record { from = 0; to = 0; length = 1; speed = 1; capacity = 1; lanes = 1 })

-- the seconds of a link that is entered in a bin, by the events of a day: the average of the observed ones
abbrev pub observed_time : List LinkRow → List Event → ℕ → ℕ → ℕ
observed_time links events link bin = average_or (free_of (link_at links link)) (length (observed link bin events))
    (sum (observed link bin events))
