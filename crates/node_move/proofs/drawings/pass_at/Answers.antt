use Rattle.std.proofs.Common.{◌≡◌, ◌∙◌, [], ◌∷◌, true, get_or, ap, sym, subst}
use Rattle.traffic.specs.Nodes.{pass_node_all, HaveNext}
use Rattle.queue_link.specs.Links.{LinkView}
use Rattle.node_move.proofs.Places.{is_at, ready_at, ready_with, apart_with, is_passed, pass_among}
use Rattle.node_move.specs.{NodeStates.node_state, NodeStates.node_run, NodeStates.in_link_of, NodeStates.no_link, Spaces.places_in}
use Rattle.node_move.proofs.drawings.pass_at.Goals as goal

pub pass_node-requires : goal.pass_node-requires
pass_node-requires c =
    let vs = c.args.in_links.now in
    let v = c.index-in_links-place.result in
    let q : get_or vs c.args.place v ≡ get_or vs c.args.place no_link
    = sym c.index-in_links-place.is ∙ is_at vs c.args.place v c.requires.within c.index-in_links-place.is in
    record { ready = subst (λ (x : LinkView). HaveNext x.lists.buffer) (sym q) (ready_at vs c.args.place c.requires.ready) }

pub returns-clause-run : goal.returns-clause-run
returns-clause-run c =
    let vs = c.args.in_links.now in
    let v = c.index-in_links-place.result in
    let n = c.pass_node.new in
    let q : get_or vs c.args.place v ≡ get_or vs c.args.place no_link
    = sym c.index-in_links-place.is ∙ is_at vs c.args.place v c.requires.within c.index-in_links-place.is in
    pass_among c.args.turn.now.stuck c.args.turn.now.second vs c.args.place n.in_link (places_in c.args.space.now) (places_in n.space)
    c.args.crossings.now.entering.items n.crossings.entering.items c.args.crossings.now.removed.items n.crossings.removed.items c.args.said.now.items
    n.said.items c.requires.apart c.requires.within
    (subst (λ (x : LinkView).
    node_state (n.in_link ∷ []) (places_in n.space) n.crossings.entering.items n.crossings.removed.items n.said.items
    ≡ node_run (pass_node_all c.args.turn.now.stuck c.args.turn.now.second (places_in c.args.space.now) (in_link_of x true))
    (node_state (x ∷ []) (places_in c.args.space.now) c.args.crossings.now.entering.items c.args.crossings.now.removed.items c.args.said.now.items))
    q c.in_ok-pass_node.ensures.run)

pub returns-clause-ready : goal.returns-clause-ready
returns-clause-ready c = ready_with c.args.in_links.now c.args.place c.pass_node.new.in_link c.requires.ready c.in_ok-pass_node.ensures.ready

pub returns-clause-apart : goal.returns-clause-apart
returns-clause-apart c =
    let vs = c.args.in_links.now in
    let v = c.index-in_links-place.result in
    let n = c.pass_node.new in
    let q : get_or vs c.args.place v ≡ get_or vs c.args.place no_link
    = sym c.index-in_links-place.is ∙ is_at vs c.args.place v c.requires.within c.index-in_links-place.is in
    let p = is_passed c.args.turn.now.stuck c.args.turn.now.second (get_or vs c.args.place v) n.in_link (places_in c.args.space.now) (places_in n.space)
    c.args.crossings.now.entering.items n.crossings.entering.items c.args.crossings.now.removed.items n.crossings.removed.items
    c.args.said.now.items n.said.items c.in_ok-pass_node.ensures.run in
    apart_with vs c.args.place n.in_link c.requires.apart (ap (λ (x : LinkView). x.numbers) p ∙ ap (λ (x : LinkView). x.numbers) q)
