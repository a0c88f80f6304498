use Rattle.std.{proofs.Common.◌≡◌, proofs.Common.ℕ, proofs.Common.◌+◌, proofs.Common.length, specs.Prelude.map}
use Rattle.draws.specs.Words.{word}
use Rattle.law_sleeping.specs.Able.{able_now, draw_lazily}
use Rattle.node_move.specs.Spaces.{places_in, holes_in}
use Rattle.node_move.specs.NodeStates.{node_state, node_run, seen, ArePlaces, AreReady, AreApart, HaveWeights}
use Rattle.traffic.specs.Nodes.{weight_of}
use Rattle.node_move.proofs.drawings.draw.Given as goal

abbrev pub invariant-picks : goal.invariant-picks
invariant-picks l = record {
  run :
      node_run (draw_lazily (able_now l.turn.stuck l.turn.second) l.turn.stuck l.turn.second (word l.turn.draws) (length l.initial.left.places.items) 0
      (seen l.initial.in_links l.initial.left.places.items) (places_in l.initial.space))
      (node_state l.initial.in_links (places_in l.initial.space) l.initial.crossings.entering.items l.initial.crossings.removed.items l.initial.said.items)
      ≡ node_run (draw_lazily (able_now l.turn.stuck l.turn.second) l.turn.stuck l.turn.second (word l.turn.draws) (length l.left.places.items) l.number
      (seen l.in_links l.left.places.items) (places_in l.space))
      (node_state l.in_links (places_in l.space) l.crossings.entering.items l.crossings.removed.items l.said.items);
  places : ArePlaces (length l.in_links) l.left.places.items;
  weights : l.left.weights.items ≡ map weight_of (seen l.in_links l.left.places.items);
  some : HaveWeights (seen l.in_links l.left.places.items);
  ready : AreReady l.in_links;
  apart : AreApart l.in_links;
  holes : (m : ℕ) → holes_in l.space m ≡ holes_in l.initial.space m;
  count : l.number + length l.left.places.items ≡ length l.initial.left.places.items;
}

abbrev pub decreases-picks : goal.decreases-picks
decreases-picks l = length l.left.places.items
