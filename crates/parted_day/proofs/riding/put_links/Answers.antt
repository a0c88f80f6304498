use Rattle.parted_day.proofs.StrayRows.{link_put, links_put}
use Rattle.parted_day.proofs.riding.put_links.Goals as goal

pub loop-link-preserved : goal.loop-link-preserved
loop-link-preserved c =
    link_put c.loop-link.link-index c.args.links.now c.link-item.result c.loop-link.table c.put_vehicles.new.table _
    c.loop-link-test.true c.link-item.is
    c.in_ok-put_vehicles.ensures c.loop-link.invariant

pub returns : goal.returns
returns c = links_put c.loop-link.link-index c.args.links.now c.loop-link.table _ c.loop-link-test.false c.loop-link.invariant
