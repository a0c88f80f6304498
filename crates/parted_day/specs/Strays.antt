-- Who is on the way from one partition to another when the day ends.
use Rattle.std.specs.List.{flat_map}
use Rattle.std.specs.Prelude.{◌≡◌, ℕ, zero, suc, ◌+◌, List, [], ◌∷◌, ◌++◌, map, get_or, nat_le, ◌==◌, Bool, if◌then◌else◌}
use Rattle.events.specs.declared.event.VehicleId.{VehicleId}
use Rattle.traffic.specs.{Setup.Setup, declared.riders.Rider.Rider}
use Rattle.traffic.specs.declared.world.Place.TheVariants as place
use Rattle.parts.specs.{Owners.Owner, Owners.lag, Parts.Passed, Parts.Flight, Parts.Parcel as Sent, Parts.out}
use Rattle.step_core.specs.declared.part.Border.{Border}
use Rattle.divided_day.specs.Borders.{borders_of}
use Rattle.part_seconds.specs.declared.contents.{Moved.Moved, Teleported.Teleported}
use Rattle.parted_day.specs.declared.straying.Stray.{Stray}

-- WHO IS IN A PARCEL
-- the riders of vehicle v on link l, with their elements
abbrev pub stray_riders : ℕ → VehicleId → List Rider → List ℕ → List Stray
stray_riders l v [] es = []
stray_riders l v (r ∷ rs) [] = []
stray_riders l v (r ∷ rs) (e ∷ es) =
    record { person = r.person; link = l; state = record { element = e; place = place.Riding v } } ∷ stray_riders l v rs es

abbrev pub passed_strays : Passed → List Stray
passed_strays y = stray_riders y.row.link y.row.vehicle.id y.row.vehicle.riders y.elements

-- a person who teleports since second s rides on no link
abbrev pub flight_stray : ℕ → Flight → Stray
flight_stray s f = record { person = f.person; link = 0; state = record { element = f.element; place = place.Teleporting s } }

-- all who are in a parcel of second s
abbrev pub strays_in : ℕ → Sent → List Stray
strays_in s x = flat_map passed_strays x.vehicles ++ map (flight_stray s) x.flights

-- the same as it is sent
abbrev pub moved_strays : Moved → List Stray
moved_strays m = stray_riders (get_or m.vehicle.route m.vehicle.place 0) m.vehicle.id m.vehicle.riders m.elements

abbrev pub teleported_stray : ℕ → Teleported → Stray
teleported_stray s f = record { person = f.person; link = 0; state = record { element = f.element; place = place.Teleporting s } }

-- WHICH PARCELS COME TOO LATE
-- those of p to q of this second and later: q would absorb them when its day is over
abbrev pub comes_too_late : Setup → Owner → ℕ → ℕ → ℕ → Bool
comes_too_late S own p q s = nat_le S.settings.end_second (s + lag S own p q)

-- whom p sends to q in second s, where that comes too late
abbrev pub strays_to : Setup → Owner → ℕ → ℕ → ℕ → List Stray
strays_to S own p s q = if comes_too_late S own p q s then strays_in s (out S own p q s) else []

-- to all of these neighbours
abbrev pub strays_over : Setup → Owner → ℕ → ℕ → List Border → List Stray
strays_over S own p s borders = flat_map (λ (b : Border). strays_to S own p s b.neighbour) borders

-- in all seconds before t, to all neighbours of p among so many partitions
unfoldable pub strays_before : Setup → Owner → ℕ → ℕ → ℕ → List Stray
strays_before S own parts p zero = []
strays_before S own parts p (suc t) = strays_before S own parts p t ++ strays_over S own p t (borders_of S own parts p)

-- these are the strays of p once t seconds are done: who is in a parcel of its that comes too late
abbrev pub AreStrays : Setup → Owner → ℕ → ℕ → ℕ → List Stray → Type 0
AreStrays S own parts p t strays = strays ≡ strays_before S own parts p t

-- THE LAG to another partition, as it stands among the neighbours of that one
abbrev pub lag_among : ℕ → List Border → ℕ
lag_among p [] = 0
lag_among p (b ∷ bs) = if b.neighbour == p then b.lag else lag_among p bs
