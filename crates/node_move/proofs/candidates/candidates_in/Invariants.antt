use Rattle.std.{proofs.Common.◌≡◌, proofs.Common.◌≤◌, proofs.Common.length, proofs.Common.take, specs.Prelude.map}
use Rattle.traffic.specs.Nodes.{candidates, weight_of}
use Rattle.node_move.{proofs.Drawing.AllBelow, specs.NodeStates.in_links_of, specs.NodeStates.seen, specs.NodeStates.ArePlaces, specs.NodeStates.HaveWeights}
use Rattle.node_move.proofs.candidates.candidates_in.Given as goal

abbrev pub invariant-loop-place : goal.invariant-loop-place
invariant-loop-place l = record {
  value : seen l.in_links l.places.items ≡ candidates (take l.place (in_links_of l.in_links l.greens));
  places : ArePlaces (length l.in_links) l.places.items;
  below : AllBelow l.place l.places.items;
  weights : l.weights.items ≡ map weight_of (seen l.in_links l.places.items);
  some : HaveWeights (seen l.in_links l.places.items);
  few : length l.places.items ≤ l.place;
}
