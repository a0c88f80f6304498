use Rattle.std.proofs.Common.{◌≡◌, ◌++◌, length}
use Rattle.traffic.specs.Stops.{staying}
use Rattle.vehicles.proofs.stops.staying.Given as goal

abbrev pub invariant-loop-rest : goal.invariant-loop-rest
invariant-loop-rest l = l.stay.items ++ staying l.stop l.rest ≡ staying l.stop l.riders

abbrev pub decreases-loop-rest : goal.decreases-loop-rest
decreases-loop-rest l = length l.rest
