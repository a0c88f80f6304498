use Rattle.law_waking.proofs.Lines.{turn_leaves}
use Rattle.law_waking.proofs.services_leave_the_others.Goals as goal

pub returns : goal.returns
returns c = turn_leaves
