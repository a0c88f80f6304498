use Rattle.law_sleeping.proofs.Exhausting.{out_links_are, node_settles}
use Rattle.law_sleeping.proofs.nodes.nodes_settle.Goals as goal

pub returns : goal.returns
returns c = assumption (out_links_are, node_settles)
