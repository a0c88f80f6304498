-- How many events there are, and how many of them tell that a person is stuck.
use Rattle.std.specs.{List.count_by, Prelude.◌≡◌, Prelude.ℕ, Prelude.Bool, Prelude.true, Prelude.false, Prelude.List, Prelude.length}
use Rattle.events.specs.declared.event.{Event.Event, Word.Word}
use Rattle.events.specs.declared.event.Word.TheVariants as word
use Rattle.event_handler.specs.declared.counts.EventCounts.{EventCounts}

abbrev pub is_stuck : Word → Bool
is_stuck word.ActEnd = false
is_stuck word.Departure = false
is_stuck word.Travelled = false
is_stuck word.Arrival = false
is_stuck word.ActStart = false
is_stuck word.PersonEntersVehicle = false
is_stuck word.VehicleEntersTraffic = false
is_stuck word.LeftLink = false
is_stuck word.EnteredLink = false
is_stuck word.VehicleLeavesTraffic = false
is_stuck word.PersonLeavesVehicle = false
is_stuck word.WaitingForPt = false
is_stuck word.TransitDriverStarts = false
is_stuck word.VehicleArrivesAtFacility = false
is_stuck word.VehicleDepartsAtFacility = false
is_stuck word.VehicleAborts = false
is_stuck word.StuckAndAbort = true

-- how many of the events are of persons who are stuck
abbrev pub stuck_count : List Event → ℕ
stuck_count events = count_by (λ event. is_stuck event.word) events

-- these are the counts of the events
pub record AreCounted (counts : EventCounts) (events : List Event) : Type 0 where
  pub all : counts.events ≡ length events
  pub stuck : counts.stuck ≡ stuck_count events
