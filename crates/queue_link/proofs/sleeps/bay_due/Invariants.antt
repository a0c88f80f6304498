use Rattle.std.proofs.Common.{◌≡◌, drop}
use Rattle.queue_link.specs.Waking.{bay_due}
use Rattle.calendar.specs.Waking.{earliest}
use Rattle.queue_link.proofs.sleeps.bay_due.Given as goal

abbrev pub invariant-loop-row : goal.invariant-loop-row
invariant-loop-row l = earliest l.due (bay_due (drop l.row-index l.bay)) ≡ bay_due l.bay
