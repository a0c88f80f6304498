use Rattle.std.proofs.Common.{◌≡◌, drop}
use Rattle.scoring.specs.Points.{rise_from}
use Rattle.scoring.proofs.table.rise_from.Given as goal

abbrev pub invariant-loop-point : goal.invariant-loop-point
invariant-loop-point l = rise_from l.second l.points ≡ rise_from l.before (drop l.point-index l.points)
