-- Moves that keep a world fit, and events whose numbers have names.
use Rattle.std.specs.Prelude.{◌≡◌, ◌<◌, ℕ, List, [], ◌∷◌, length, Option, None, Some}
use Rattle.events.specs.declared.event.{Book.Book, More.More, VehicleId.VehicleId}
use Rattle.events.specs.declared.event.More.TheVariants as more
use Rattle.traffic.specs.{Moves.told, declared.moves.Move.Move}
use Rattle.traffic.specs.declared.moves.Move.TheVariants.{Transfer, Remove, Enter, SetFrontSince, Credit, LeaveHole, Report}
use Rattle.traffic.specs.declared.moves.Occurrence.{Occurrence}
use Rattle.law_in_range.specs.Rows.{Counts, IsFitId, IsFitRow}

-- a number below this, where there is one
abbrev pub IsBelow : ℕ → Option ℕ → Type 0
IsBelow count None = Unit {0}
IsBelow count (Some number) = number < count

-- a vehicle that is there, where there is one
abbrev pub IsFitVehicleId : Counts → Option VehicleId → Type 0
IsFitVehicleId z None = Unit {0}
IsFitVehicleId z (Some v) = IsFitId z v

-- the kind, the stop or the line of the last field is there
abbrev pub IsFitMore : Counts → More → Type 0
IsFitMore z more.Nothing = Unit {0}
IsFitMore z (more.Kind kind) = kind < z.kinds
IsFitMore z (more.Mode mode) = Unit {0}
IsFitMore z (more.Seconds seconds) = Unit {0}
IsFitMore z (more.Stop stop) = stop < z.stops
IsFitMore z (more.Line line) = line < z.lines

-- all that an event tells of is there
pub record IsFitOccurrence (z : Counts) (x : Occurrence) : Type 0 where
  pub person : IsBelow z.persons x.person
  pub vehicle : IsFitVehicleId z x.vehicle
  pub link : IsBelow z.links x.link
  pub more : IsFitMore z x.more

-- the same of each event
abbrev pub AreFitOccurrences : Counts → List Occurrence → Type 0
AreFitOccurrences z [] = Unit {0}
AreFitOccurrences z (x ∷ xs) = IsFitOccurrence z x × AreFitOccurrences z xs

-- the row that a move puts is fit, and the link whose credit or hole it changes is there
abbrev pub IsFitChange : Counts → Move → Type 0
IsFitChange z (Transfer l s k was now) = IsFitRow z now
IsFitChange z (Remove l s k was) = Unit {0}
IsFitChange z (Enter now) = IsFitRow z now
IsFitChange z (SetFrontSince l t) = Unit {0}
IsFitChange z (Credit l credit) = l < z.links
IsFitChange z (LeaveHole l t) = l < z.links
IsFitChange z (Report says) = Unit {0}

-- a fit move makes a fit change, and all that it tells of is there
abbrev pub IsFitMove : Counts → Move → Type 0
IsFitMove z m = IsFitChange z m × AreFitOccurrences z (told m)

-- each move is fit
abbrev pub AreFitMoves : Counts → List Move → Type 0
AreFitMoves z [] = Unit {0}
AreFitMoves z (m ∷ ms) = IsFitMove z m × AreFitMoves z ms

-- the book names as many of each
pub record IsBookOf (z : Counts) (book : Book) : Type 0 where
  pub persons : length book.persons ≡ z.persons
  pub links : length book.links ≡ z.links
  pub kinds : length book.kinds ≡ z.kinds
  pub stops : length book.stops ≡ z.stops
  pub lines : length book.lines ≡ z.lines
  pub departures : length book.departures ≡ z.departures
