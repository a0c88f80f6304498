use Rattle.law_parts_of_days.proofs.Through.{nodes_are, links_are, told_are}
use Rattle.law_parts_of_days.proofs.seconds_have_three_steps.Goals as goal

pub returns : goal.returns
returns c = assumption (nodes_are, links_are, told_are)
