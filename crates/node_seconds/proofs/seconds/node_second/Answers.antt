use Rattle.std.proofs.Common.{◌∙◌, List, ap, sym, subst, arith}
use Rattle.queue_link.specs.Links.{LinkView}
use Rattle.node_move.specs.NodeStates.{AreReady, AreApart}
use Rattle.node_seconds.{proofs.Lanes.ready_taken, proofs.Lanes.several_turned, specs.Networks.lane}
use Rattle.node_seconds.proofs.seconds.node_second.Goals as goal

pub move_node-requires-clause-ready : goal.move_node-requires-clause-ready
move_node-requires-clause-ready c =
    subst (λ (vs : List LinkView). AreReady vs) (sym (c.deref_mut.ensures.value ∙ c.in_ok-taken.ensures.taken))
    (ready_taken (lane c.args.links.now) c.args.into.now c.requires.ready)

pub move_node-requires-clause-apart : goal.move_node-requires-clause-apart
move_node-requires-clause-apart c =
    subst (λ (vs : List LinkView). AreApart vs) (sym (c.deref_mut.ensures.value ∙ c.in_ok-taken.ensures.taken)) c.requires.apart

pub returns : goal.returns
returns c =
    several_turned c.args.turn.now c.in_ok-taken.taken.len c.args.links.now c.take_links.new.links c.put_links.new.links c.deref_mut.result.now
    c.move_node.new.in_links _ c.args.into.now c.args.greens.now c.args.space.now c.move_node.new.space _ c.move_node.new.crossings.entering.items
    c.entering_of.result.items _ _ c.args.said.now.items c.move_node.new.said.items (c.deref_mut.ensures.value ∙ c.in_ok-taken.ensures.taken)
    c.in_ok-taken.ensures.count c.in_ok-taken.ensures.others c.in_ok-move_node.ensures.run
    (omega (arith, c.move_node.auto.in_links, c.deref_mut.ensures.len)) c.put_links.ensures c.no_crossings-crossings.ensures.entering
    (ap (λ v. v.items) c.entering_of.ensures) c.in_ok-move_node.ensures.holes
