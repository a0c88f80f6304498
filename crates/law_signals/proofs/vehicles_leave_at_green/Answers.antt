use Rattle.law_signals.proofs.Days.{day_keeps}
use Rattle.law_signals.proofs.vehicles_leave_at_green.Goals as goal

pub returns : goal.returns
returns c = day_keeps
