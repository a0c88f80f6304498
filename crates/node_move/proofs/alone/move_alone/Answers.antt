use Rattle.std.proofs.Common.{◌∙◌, ◌<◌, Bool, [], ◌∷◌, ap, sym, subst, arith}
use Rattle.queue_link.specs.Links.{LinkView}
use Rattle.draws.specs.Words.{word}
use Rattle.node_move.{proofs.Single.passes_alone, proofs.Single.waits_alone, specs.NodeStates.node_state, specs.NodeStates.after_turn, specs.Spaces.places_in}
use Rattle.node_move.proofs.alone.move_alone.Goals as goal

pub returns-then-not-green-clause-run : goal.returns-then-not-green-clause-run
returns-then-not-green-clause-run c =
    let t = c.args.turn.now in
    let N = node_state (c.args.in_link.now ∷ []) (places_in c.args.space.now) c.args.crossings.now.entering.items c.args.crossings.now.removed.items c.args.said.now.items in
    ap (λ (v : LinkView). node_state (v ∷ []) (places_in c.args.space.now) c.args.crossings.now.entering.items c.args.crossings.now.removed.items c.args.said.now.items)
    c.mark_first.ensures
    ∙ waits_alone t.stuck t.second (word t.draws) c.args.in_link.now (places_in c.args.space.now) c.args.crossings.now.entering.items
    c.args.crossings.now.removed.items c.args.said.now.items
    ∙ ap (λ (green : Bool). after_turn t.stuck t.second (word t.draws) (green ∷ []) N) (sym c.if-not-green.true)

pub returns-clause-run : goal.returns-clause-run
returns-clause-run c =
    let t = c.args.turn.now in
    let N = node_state (c.args.in_link.now ∷ []) (places_in c.args.space.now) c.args.crossings.now.entering.items c.args.crossings.now.removed.items c.args.said.now.items in
    let n = c.numbers.ensures.near in
    let weight : 0 < c.args.in_link.now.numbers.capacity
    = subst (λ m. 0 < m.capacity) c.numbers.ensures.value (let a = n.some_capacity in omega arith) in
    passes_alone t.draws t.stuck t.second c.args.in_link.now (places_in c.args.space.now) c.args.crossings.now.entering.items
    c.args.crossings.now.removed.items c.args.said.now.items _ weight c.in_ok-pass_node.ensures.run
    ∙ ap (λ (green : Bool). after_turn t.stuck t.second (word t.draws) (green ∷ []) N) (sym c.if-not-green.false)
