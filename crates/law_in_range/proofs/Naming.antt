-- What is fit has its names in the book.
use Rattle.traffic.proofs.Common.{◌≡◌, ℕ, List, length, [], ◌∷◌, arith, ◌+◌, flat_map, Some, None, Option, Book, Event, More, VehicleId, keyed, event_at, told}
use Rattle.traffic.specs.declared.moves.{Move.Move, Occurrence.Occurrence}
use Rattle.std.specs.List.{AllByRecursion as Each}
use Rattle.events.specs.Lines.{IsNamed, IsVehicleNamed, IsMoreNamed, IsInBook}
use Rattle.events.specs.declared.event.More.TheVariants as more
use Rattle.events.specs.declared.event.VehicleId.TheVariants as vehicle
use Rattle.law_in_range.{proofs.Telling.said_append, specs.Moves.IsBelow, specs.Moves.IsFitVehicleId}
use Rattle.law_in_range.specs.{Moves.IsFitMore, Moves.IsFitOccurrence, Moves.AreFitOccurrences, Moves.AreFitMoves, Moves.IsBookOf, Rows.Counts}

below_named : (names : List (List ℕ)) (count : ℕ) (o : Option ℕ) → length names ≡ count → IsBelow count o → IsNamed names o
below_named names count None e h = tt
below_named names count (Some number) e h = omega arith

vehicle_named : (z : Counts) (book : Book) (o : Option VehicleId) → IsBookOf z book → IsFitVehicleId z o → IsVehicleNamed book o
vehicle_named z book None b h = tt
vehicle_named z book (Some (vehicle.Car person)) b h = let e = b.persons in omega arith
vehicle_named z book (Some (vehicle.Transit departure)) b h = let e = b.departures in omega arith

more_named : (z : Counts) (book : Book) (m : More) → IsBookOf z book → IsFitMore z m → IsMoreNamed book m
more_named z book (more.Kind kind) b h = let e = b.kinds in omega arith
more_named z book (more.Stop stop) b h = let e = b.stops in omega arith
more_named z book (more.Line line) b h = let e = b.lines in omega arith
more_named z book _ b h = tt

abbrev pub Named : Book → Event → Type 0
Named book e = IsInBook e book

said_named : (z : Counts) (book : Book) (t code n index : ℕ) (x : Occurrence) → IsBookOf z book → IsFitOccurrence z x → Named book (event_at t code n index x)
said_named z book t code n index x b h =
    record {
      person = below_named book.persons z.persons x.person b.persons h.person;
      vehicle = vehicle_named z book x.vehicle b h.vehicle;
      link = below_named book.links z.links x.link b.links h.link;
      more = more_named z book x.more b h.more;
    }

pub keyed_named : (z : Counts) (book : Book) (t code n index : ℕ) (xs : List Occurrence) → IsBookOf z book → AreFitOccurrences z xs → Each (Named book) (keyed t code n index xs)
unfolding keyed
keyed_named z book t code n index [] b h = tt
keyed_named z book t code n index (x ∷ xs) b h = (said_named z book t code n index x b h.0, keyed_named z book t code n (index + 1) xs b h.1)

pub told_fit : (z : Counts) (ms : List Move) → AreFitMoves z ms → AreFitOccurrences z (flat_map told ms)
told_fit z [] h = tt
told_fit z (m ∷ ms) h = said_append z (told m) (flat_map told ms) h.0.1 (told_fit z ms h.1)
