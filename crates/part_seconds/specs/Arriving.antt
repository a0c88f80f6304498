-- What a parcel makes of who is in a partition.
use Rattle.std.specs.Prelude.{◌≡◌, ℕ, ◌<◌, List, [], ◌∷◌, length, get_or, ◌==◌, if◌then◌else◌}
use Rattle.std.specs.List.{flat_map}
use Rattle.traffic.specs.{Rows.person_of, declared.world.Person.Person}
use Rattle.traffic.specs.declared.world.Place.TheVariants as place
use Rattle.parts.specs.Parts.{Passed}
use Rattle.law_partitions.specs.Alone.{riding}
use Rattle.law_parcels.specs.Hearing.{last_or}
use Rattle.node_move.specs.declared.crossings.Entering.{Entering}
use Rattle.town.specs.declared.day_input.DayInput.{DayInput}
use Rattle.part_persons.specs.{Dues.AreFollowedIn, declared.persons.Persons.Persons}
use Rattle.part_seconds.specs.declared.contents.{Moved.Moved, Teleported.Teleported}

-- Each person has the last of the rows that came for him, or the one that he had; all else is as it was.
pub record Come (day : DayInput) (rows : ℕ → List Person) (old new : Persons) : Type 0 where
  pub each : (i : ℕ) → i < length old.world.persons → person_of i new.world ≡ last_or (person_of i old.world) (rows i)
  pub count : length new.world.persons ≡ length old.world.persons
  pub rest : new.world ≡ record old.world { persons = new.world.persons }
  pub followed : (t : ℕ) → AreFollowedIn day t old.world.persons old.wakes → AreFollowedIn day t new.world.persons new.wakes
  pub wakes : length new.wakes ≡ length new.world.persons

-- this row, if it is person i's
abbrev pub if_is : ℕ → ℕ → Person → List Person
if_is n i P = if n == i then P ∷ [] else []

-- the rows of person i in these vehicles, and where he teleports since second s
abbrev pub riding_in : ℕ → Moved → List Person
riding_in i m = riding i m.vehicle.id m.vehicle.riders m.elements

abbrev pub all_riding : ℕ → List Moved → List Person
all_riding i ms = flat_map (riding_in i) ms

abbrev pub teleporting_in : ℕ → ℕ → Teleported → List Person
teleporting_in i s f = if_is f.person i (record { element = f.element; place = place.Teleporting s })

-- a vehicle that comes to its link
abbrev pub entering_by : Moved → Entering
entering_by m = record { link = get_or m.vehicle.route m.vehicle.place 0; vehicle = m.vehicle }

abbrev pub entered : Passed → Entering
entered y = record { link = y.row.link; vehicle = y.row.vehicle }
