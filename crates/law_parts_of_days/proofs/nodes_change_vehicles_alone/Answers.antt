use Rattle.law_parts_of_days.proofs.{Taken.nodes_keep_holes, Waiting.waiters_in_one}
use Rattle.law_parts_of_days.proofs.nodes_change_vehicles_alone.Goals as goal

pub returns : goal.returns
returns c = assumption (waiters_in_one, nodes_keep_holes)
