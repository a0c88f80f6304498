use Rattle.std.proofs.Common.{◌≡◌, length}
use Rattle.town.specs.Fits.{are_joining}
use Rattle.town.proofs.legs.are_joining.Given as goal

abbrev pub invariant-loop-rest : goal.invariant-loop-rest
invariant-loop-rest l = are_joining l.access l.egress l.rest ≡ are_joining l.access l.egress l.calls

abbrev pub decreases-loop-rest : goal.decreases-loop-rest
decreases-loop-rest l = length l.rest
