use Rattle.std.proofs.Common.{length}
use Rattle.scenario.proofs.legs.+legs_fault.Given as goal

abbrev pub decreases-legs_fault : goal.decreases-legs_fault
decreases-legs_fault l = length l.legs.now
