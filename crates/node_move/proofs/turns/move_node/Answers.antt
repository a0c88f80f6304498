use Rattle.std.proofs.Common.{List, sym, subst}
use Rattle.queue_link.specs.Links.{LinkView}
use Rattle.node_move.proofs.Drawing.{marks_ready, marks_apart, whole_turn}
use Rattle.node_move.specs.{NodeStates.AreReady, NodeStates.AreApart, Spaces.places_in}
use Rattle.node_move.proofs.turns.move_node.Goals as goal

pub draw-requires-clause-ready : goal.draw-requires-clause-ready
draw-requires-clause-ready c =
    subst (λ (vs : List LinkView). AreReady vs) (sym c.in_ok-left.ensures.marked)
    (marks_ready c.args.turn.now.second c.args.in_links.now c.args.greens.now c.requires.ready)

pub draw-requires-clause-apart : goal.draw-requires-clause-apart
draw-requires-clause-apart c =
    subst (λ (vs : List LinkView). AreApart vs) (sym c.in_ok-left.ensures.marked)
    (marks_apart c.args.turn.now.second c.args.in_links.now c.args.greens.now c.requires.apart)

pub returns-clause-run : goal.returns-clause-run
returns-clause-run c =
    whole_turn c.args.turn.now.draws c.args.turn.now.stuck c.args.turn.now.second c.args.in_links.now c.find_candidates.new.in_links c.args.greens.now
    c.in_ok-left.left.places.items (places_in c.args.space.now) c.args.crossings.now.entering.items c.args.crossings.now.removed.items
    c.args.said.now.items _ c.requires.apart c.requires.lit c.in_ok-left.ensures.marked c.in_ok-left.ensures.value c.in_ok-draw.ensures.run
