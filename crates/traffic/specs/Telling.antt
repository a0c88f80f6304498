-- What a move tells: the events of a day without their keys.
use Rattle.std.specs.Prelude.{ℕ, ◌-◌, List, [], ◌∷◌, ◌++◌, length, drop, if◌then◌else◌, Option, None, Some}
use Rattle.std.specs.List.{flat_map}
use Rattle.events.specs.declared.event.{Mode.Mode, More.More, VehicleId.VehicleId, Word.Word}
use Rattle.events.specs.declared.event.Mode.TheVariants as mode
use Rattle.events.specs.declared.event.Word.TheVariants as word
use Rattle.events.specs.declared.event.VehicleId.TheVariants as vehicle
use Rattle.events.specs.declared.event.More.TheVariants as more
use Rattle.traffic.specs.declared.{riders.Rider.Rider, stage.Stage.Stage}
use Rattle.traffic.specs.declared.stage.Stage.TheVariants.{Queue, Buffer, Wait, Bay}
pub use Rattle.traffic.specs.declared.moves.Occurrence.{Occurrence}
use Rattle.traffic.specs.{Rows.Row, Stops.call_at, Stops.next_call, Stops.alighting, Stops.staying}

-- of a person on a link, of a person and a vehicle, and of a vehicle on a link
abbrev pub of_person : Word → ℕ → ℕ → More → Occurrence
of_person word i l more = record { word = word; person = Some i; vehicle = None; link = Some l; more = more }

abbrev pub of_rider : Word → ℕ → VehicleId → Occurrence
of_rider word i v = record { word = word; person = Some i; vehicle = Some v; link = None; more = more.Nothing }

abbrev pub of_vehicle : Word → VehicleId → ℕ → More → Occurrence
of_vehicle word v l more = record { word = word; person = None; vehicle = Some v; link = Some l; more = more }

-- the driver of a car; that of a transit vehicle is no person
abbrev pub driver : VehicleId → Option ℕ
driver (vehicle.Car i) = Some i
driver (vehicle.Transit d) = None

-- the mode of who rides in it
abbrev pub mode_in : VehicleId → Mode
mode_in (vehicle.Car i) = mode.Car
mode_in (vehicle.Transit d) = mode.Pt

-- of a vehicle and its driver on a link
abbrev pub of_driver : Word → VehicleId → ℕ → Occurrence
of_driver word v l = record { word = word; person = driver v; vehicle = Some v; link = Some l; more = more.Nothing }

-- a rider leaves the vehicle on link l, and his next activity begins
abbrev pub leaves : VehicleId → ℕ → Rider → List Occurrence
leaves v l r =
    of_rider word.PersonLeavesVehicle r.person v
    ∷ of_person word.Arrival r.person l (more.Mode (mode_in v))
    ∷ of_person word.ActStart r.person l (more.Kind r.kind) ∷ []

abbrev pub enters : VehicleId → Rider → List Occurrence
enters v r = of_rider word.PersonEntersVehicle r.person v ∷ []

-- a vehicle that leaves the wait list for the first time enters traffic
abbrev pub starts : Row → List Occurrence
starts r = if r.vehicle.started then [] else of_driver word.VehicleEntersTraffic r.vehicle.id r.link ∷ []

-- a vehicle at the end of its route leaves traffic, and then its riders leave it
abbrev pub arrives : Row → List Occurrence
arrives r =
    of_driver word.VehicleLeavesTraffic r.vehicle.id r.link ∷ flat_map (leaves r.vehicle.id r.link) r.vehicle.riders

-- a vehicle is removed with its riders
abbrev pub strands : VehicleId → ℕ → Rider → List Occurrence
strands v l r = of_person word.StuckAndAbort r.person l (more.Mode (mode_in v)) ∷ []

abbrev pub aborts : Row → List Occurrence
aborts r =
    of_vehicle word.VehicleAborts r.vehicle.id r.link more.Nothing ∷ flat_map (strands r.vehicle.id r.link) r.vehicle.riders

-- of these riders after the stop those who boarded there: the ones behind those who stayed
abbrev pub boarded : ℕ → List Rider → List Rider → List Rider
boarded stop before after = drop (length (staying stop before)) after

-- a vehicle is served at its next call: it comes, some alight, some board
abbrev pub serves : Row → Row → List Occurrence
serves was now =
    let v = was.vehicle in
    let stop = (next_call v).stop in
    of_vehicle word.VehicleArrivesAtFacility v.id was.link (more.Stop stop)
    ∷ (flat_map (leaves v.id was.link) (alighting stop v.riders) ++ flat_map (enters v.id) (boarded stop v.riders now.vehicle.riders))

-- it goes on from the call that it served last
abbrev pub goes_on : Row → List Occurrence
goes_on r =
    of_vehicle word.VehicleDepartsAtFacility r.vehicle.id r.link (more.Stop (call_at r.vehicle.calls (r.vehicle.served - 1)).stop) ∷ []

abbrev pub changes_links : Row → Row → List Occurrence
changes_links was now =
    of_vehicle word.LeftLink was.vehicle.id was.link more.Nothing ∷ of_vehicle word.EnteredLink now.vehicle.id now.link more.Nothing ∷ []

-- into the bay it is served; into a buffer nothing is told
abbrev pub told_to : Stage → Row → Row → List Occurrence
told_to Queue was now = []
told_to Buffer was now = []
told_to Wait was now = []
told_to Bay was now = serves was now

-- a vehicle that goes from the first stage to the second
abbrev pub told_transfer : Stage → Row → Row → List Occurrence
told_transfer Queue was now = told_to now.stage was now
told_transfer Buffer was now = changes_links was now
told_transfer Wait was now = starts was ++ told_to now.stage was now
told_transfer Bay was now = goes_on was

-- a vehicle that is taken out for good
abbrev pub told_removal : Stage → Row → List Occurrence
told_removal Queue was = arrives was
told_removal Buffer was = aborts was
told_removal Wait was = starts was ++ arrives was
told_removal Bay was = []

-- a new vehicle: its driver enters his car, or a transit driver starts
abbrev pub told_entering : VehicleId → ℕ → ℕ → List Occurrence
told_entering (vehicle.Car i) l line = of_rider word.PersonEntersVehicle i (vehicle.Car i) ∷ []
told_entering (vehicle.Transit d) l line = of_vehicle word.TransitDriverStarts (vehicle.Transit d) l (more.Line line) ∷ []
