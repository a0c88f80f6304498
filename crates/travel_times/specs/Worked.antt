-- A worked link, and the events of some vehicles on it.
use Rattle.std.specs.Prelude.{ℕ, zero, suc, List, [], ◌∷◌, None, Some}
use Rattle.events.specs.declared.event.{Event.Event, VehicleId.VehicleId, Word.Word}
use Rattle.events.specs.declared.event.VehicleId.TheVariants as vehicle
use Rattle.events.specs.declared.event.Word.TheVariants as word
use Rattle.events.specs.declared.event.More.TheVariants as more
use Rattle.rows.specs.declared.network.LinkRow.{LinkRow}

-- a link takes 1,000 seconds for who enters it in the first quarter of an hour, and 20 later
abbrev pub slow_first : ℕ → ℕ
slow_first zero = 1000
slow_first (suc bin) = 20

-- link 0 takes ten seconds at its free speed
abbrev pub ten_seconds : List LinkRow
ten_seconds = record { from = 0; to = 1; length = 10000; speed = 1000; capacity = 3600; lanes = 1 } ∷ []

-- what a vehicle does on link 0
abbrev pub on_link : ℕ → Word → VehicleId → Event
on_link second what who = record {
  key = record { second = second; phase = 3; number = 0; index = 0 };
  word = what;
  person = None;
  vehicle = Some who;
  link = Some 0;
  more = more.Nothing;
}

-- car 1 takes 1,000 seconds, and car 2 takes 21; the transit vehicle dwells, car 3 ends on the link, and car 4 has begun there
abbrev pub some_seen : List Event
some_seen =
    on_link 0 word.EnteredLink (vehicle.Car 1)
    ∷ on_link 1 word.EnteredLink (vehicle.Transit 1)
    ∷ on_link 2 word.EnteredLink (vehicle.Car 3)
    ∷ on_link 5 word.VehicleEntersTraffic (vehicle.Car 4)
    ∷ on_link 7 word.LeftLink (vehicle.Car 4)
    ∷ on_link 12 word.VehicleLeavesTraffic (vehicle.Car 3)
    ∷ on_link 899 word.EnteredLink (vehicle.Car 2)
    ∷ on_link 920 word.LeftLink (vehicle.Car 2)
    ∷ on_link 1000 word.LeftLink (vehicle.Car 1)
    ∷ on_link 1100 word.LeftLink (vehicle.Transit 1)
    ∷ []
