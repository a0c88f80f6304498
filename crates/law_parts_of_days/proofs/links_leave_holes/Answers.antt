use Rattle.law_parts_of_days.proofs.Taken.{as_many_left}
use Rattle.law_parts_of_days.proofs.links_leave_holes.Goals as goal

pub returns : goal.returns
returns c = as_many_left
