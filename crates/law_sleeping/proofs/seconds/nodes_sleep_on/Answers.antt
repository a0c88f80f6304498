use Rattle.law_sleeping.proofs.Whole.{node_second, second_behind, front_stays}
use Rattle.law_sleeping.proofs.seconds.nodes_sleep_on.Goals as goal

pub returns : goal.returns
returns c = assumption (node_second, second_behind, front_stays)
