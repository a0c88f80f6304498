use Rattle.std.proofs.Common.{arith}
use Rattle.law_generated.proofs.{Given.links_valid, Nodes.nodes_valid}
use Rattle.law_generated.proofs.networks_are_valid.Goals as goal

pub returns-clause-nodes : goal.returns-clause-nodes
returns-clause-nodes c = nodes_valid

pub returns-clause-links : goal.returns-clause-links
returns-clause-links c = λ size last is. links_valid size (omega (arith, is.least)) (omega (arith, is.most))
