use Rattle.traffic.proofs.{Common.◌∙◌, Common.node_turns, Nodes.node-buffers, Nodes.buffers-holes, Nodes.buffers-credit, Nodes.node_untouched}
use Rattle.traffic.proofs.Sublists.{at-run_untouched, holes-run}
use Rattle.traffic.proofs.laws.nodes_keep_apart.Goals as goal

pub returns : goal.returns
returns c = record {
  lists = search (at-run_untouched, node_untouched);
  credits = search (buffers-credit, node-buffers);
  holes = λ S t n l W. holes-run S t l (node_turns S t n W) W ∙ buffers-holes l (node_turns S t n W) _ (node-buffers S t n W);
}
