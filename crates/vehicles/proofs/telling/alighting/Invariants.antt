use Rattle.std.proofs.Common.{◌≡◌, ◌++◌, length}
use Rattle.traffic.specs.Stops.{alighting}
use Rattle.vehicles.proofs.telling.alighting.Given as goal

abbrev pub invariant-loop-rest : goal.invariant-loop-rest
invariant-loop-rest l = l.leave.items ++ alighting l.stop l.rest ≡ alighting l.stop l.riders

abbrev pub decreases-loop-rest : goal.decreases-loop-rest
decreases-loop-rest l = length l.rest
