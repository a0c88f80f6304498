use Rattle.rows.specs.declared.network.LinkRow.{LinkRow}
use Rattle.part_nodes.proofs.Into.{into_none, into_more}
use Rattle.part_nodes.proofs.in_link_rows.InLinks.of_links.Goals as goal

pub loop-number-init : goal.loop-number-init
loop-number-init c = into_none c.args.nodes c.args.links.now c.args.slots.now c.in_ok-in_links.in_links c.in_ok-in_links.ensures

pub loop-number-preserved : goal.loop-number-preserved
loop-number-preserved c =
    let none : LinkRow = record { from = 0; to = 0; length = 0; speed = 0; capacity = 0; lanes = 0 } in
    into_more c.args.nodes c.loop-number.number c.args.links.now c.args.slots.now none c.loop-number.in_links c.put.new.self c.loop-number-test.true
    c.in_ok-put.ensures.more c.in_ok-put.ensures.nodes c.loop-number.invariant
