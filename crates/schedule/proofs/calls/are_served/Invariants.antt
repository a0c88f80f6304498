use Rattle.std.proofs.Common.{◌≡◌, length}
use Rattle.rows.specs.Schedules.{are_served}
use Rattle.schedule.proofs.calls.are_served.Given as goal

abbrev pub invariant-loop-left : goal.invariant-loop-left
invariant-loop-left l = are_served l.left l.rest ≡ are_served l.calls l.links

abbrev pub decreases-loop-left : goal.decreases-loop-left
decreases-loop-left l = length l.left
