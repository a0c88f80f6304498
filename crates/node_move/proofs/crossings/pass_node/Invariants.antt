use Rattle.std.proofs.Common.{◌≡◌, ℕ, [], ◌∷◌, true, length}
use Rattle.traffic.specs.Nodes.{pass_node_all, HaveNext}
use Rattle.node_move.specs.{NodeStates.node_state, NodeStates.node_run, NodeStates.in_link_of, Spaces.places_in, Spaces.holes_in}
use Rattle.node_move.proofs.crossings.pass_node.Given as goal

abbrev pub invariant-fronts : goal.invariant-fronts
invariant-fronts l = record {
  run :
      node_run (pass_node_all l.turn.stuck l.turn.second (places_in l.initial.space) (in_link_of l.initial.in_link true))
      (node_state (l.initial.in_link ∷ []) (places_in l.initial.space) l.initial.crossings.entering.items l.initial.crossings.removed.items l.initial.said.items)
      ≡ node_run (pass_node_all l.turn.stuck l.turn.second (places_in l.space) (in_link_of l.in_link true))
      (node_state (l.in_link ∷ []) (places_in l.space) l.crossings.entering.items l.crossings.removed.items l.said.items);
  ready : HaveNext l.in_link.lists.buffer;
  holes : (m : ℕ) → holes_in l.space m ≡ holes_in l.initial.space m;
}

abbrev pub decreases-fronts : goal.decreases-fronts
decreases-fronts l = length l.in_link.lists.buffer
