use Rattle.std.proofs.Common.{◌≡◌, ◌∙◌, ap, refl, sym, get_or}
use Rattle.node_move.{proofs.Places.is_at, specs.NodeStates.no_link}
use Rattle.node_seconds.proofs.Lanes.{alone_turned}
use Rattle.node_seconds.proofs.seconds.single_second.Goals as goal

pub returns : goal.returns
returns c =
    let links = c.args.links.now in
    let k = c.args.slot in
    let v = c.index-links-slot.result in
    let own : get_or links k v ≡ get_or links k no_link = sym c.index-links-slot.is ∙ is_at links k v c.requires.there c.index-links-slot.is in
    alone_turned c.args.turn.now k c.args.green links _ (get_or links k v) c.move_alone.new.in_link c.args.space.now c.move_alone.new.space
    _ c.move_alone.new.crossings.entering.items c.entering_of.result.items _ _ c.args.said.now.items c.move_alone.new.said.items own refl
    c.in_ok-move_alone.ensures.run c.no_crossings-crossings.ensures.entering (ap (λ v. v.items) c.entering_of.ensures)
    c.in_ok-move_alone.ensures.holes
