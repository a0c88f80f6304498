use Rattle.law_sleeping.proofs.Waking.{node_sleeps, lazy_sleeps, red_sleeps, held_sleeps, full_until, node_kept}
use Rattle.law_sleeping.proofs.nodes.nodes_sleep.Goals as goal

pub returns : goal.returns
returns c = assumption (node_sleeps, red_sleeps, held_sleeps, full_until, node_kept, lazy_sleeps)
