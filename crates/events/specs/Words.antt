-- The words of events and of modes.
use Rattle.std.specs.Prelude.{ℕ, List, codes, bytes_eq, Option, None, Some, if◌then◌else◌}
use Rattle.events.specs.declared.event.{Mode.Mode, Word.Word}
use Rattle.events.specs.declared.event.Mode.TheVariants as mode
use Rattle.events.specs.declared.event.Word.TheVariants as word

-- an event's word, as MATSim writes it
abbrev pub word_text : Word → List ℕ
word_text word.ActEnd = codes "actend"
word_text word.Departure = codes "departure"
word_text word.Travelled = codes "travelled"
word_text word.Arrival = codes "arrival"
word_text word.ActStart = codes "actstart"
word_text word.PersonEntersVehicle = codes "PersonEntersVehicle"
word_text word.VehicleEntersTraffic = codes "vehicle enters traffic"
word_text word.LeftLink = codes "left link"
word_text word.EnteredLink = codes "entered link"
word_text word.VehicleLeavesTraffic = codes "vehicle leaves traffic"
word_text word.PersonLeavesVehicle = codes "PersonLeavesVehicle"
word_text word.WaitingForPt = codes "waitingForPt"
word_text word.TransitDriverStarts = codes "TransitDriverStarts"
word_text word.VehicleArrivesAtFacility = codes "VehicleArrivesAtFacility"
word_text word.VehicleDepartsAtFacility = codes "VehicleDepartsAtFacility"
word_text word.VehicleAborts = codes "vehicle aborts"
word_text word.StuckAndAbort = codes "stuckAndAbort"

-- the name of a mode
abbrev pub mode_text : Mode → List ℕ
mode_text mode.Car = codes "car"
mode_text mode.Walk = codes "walk"
mode_text mode.Bike = codes "bike"
mode_text mode.Ride = codes "ride"
mode_text mode.Pt = codes "pt"

-- the mode of this name
unfoldable pub mode_of : List ℕ → Option Mode
mode_of bytes =
    if bytes_eq bytes (codes "car") then Some mode.Car else
    if bytes_eq bytes (codes "walk") then Some mode.Walk else
    if bytes_eq bytes (codes "bike") then Some mode.Bike else
    if bytes_eq bytes (codes "ride") then Some mode.Ride else
    if bytes_eq bytes (codes "pt") then Some mode.Pt else None
