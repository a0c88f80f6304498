use Rattle.std.proofs.Common.{◌∙◌, sym, get_or}
use Rattle.node_move.proofs.Places.{is_at}
use Rattle.part_links.proofs.Standing.{second_at}
use Rattle.part_links.proofs.link_turns.turn_at.Goals as goal

pub returns-clause-second : goal.returns-clause-second
returns-clause-second c = λ lies ws h there bay.
    let links = c.args.links.now in
    let n = c.args.slot in
    let read = c.index-links-slot.is in
    second_at lies c.args.phase.now.dwell c.args.phase.now.second n ws links (get_or links n c.index-links-slot.result) c.link_second.new.link
    c.args.lines.now c.link_second.new.lines c.new-said.result.items c.link_second.new.said.items c.requires.there
    (sym read ∙ is_at links n c.index-links-slot.result c.requires.there read) c.new-said.ensures.items there bay
    (c.in_ok-link_second.ensures.second lies ws h)
