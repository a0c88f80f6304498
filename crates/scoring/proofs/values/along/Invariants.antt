use Rattle.std.proofs.Common.{◌≡◌, ◌≤◌, true, drop}
use Rattle.scoring.specs.Points.{is_point, along}
use Rattle.scoring.proofs.values.along.Given as goal

abbrev pub invariant-loop-next : goal.invariant-loop-next
invariant-loop-next l =
    (l.before.0 ≤ l.seconds) × (is_point l.before ≡ true) × (along l.fn.first l.later l.seconds ≡ along l.before (drop l.next-index l.later) l.seconds)
