-- What a parcel says.
use Rattle.std.specs.Prelude.{ℕ, ◌+◌, map}
use Rattle.traffic.specs.Setup.{Setup, leg_at}
use Rattle.parts.specs.Parts.{Parcel as Sent, Passed, Flight, Freed, entering_row, seconds_of_way}
use Rattle.part_seconds.specs.declared.contents.{Contents.Contents, FreedPlaces.FreedPlaces, Moved.Moved, Teleported.Teleported}

-- Of a parcel that was sent in second t: the row of a vehicle, the flight of a person, and how many rows left a queue. `Flight` is the word of
-- the definition (`parts`) for what is `Teleported` here.
abbrev pub passed_of : Setup → ℕ → Moved → Passed
passed_of S t m = record { row = entering_row S t m.vehicle; elements = m.elements }

abbrev pub flight_of : Setup → ℕ → Teleported → Flight
flight_of S t f = record { person = f.person; element = f.element; due = t + seconds_of_way (leg_at S f.person f.element) }

abbrev pub freed_row : FreedPlaces → Freed
freed_row f = record { link = f.link; rows = f.count }

abbrev pub parcel_of : Setup → ℕ → Contents → Sent
parcel_of S t x =
    record { vehicles = map (passed_of S t) x.vehicles; flights = map (flight_of S t) x.teleported; freed = map freed_row x.freed }
