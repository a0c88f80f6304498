use Rattle.part_nodes.proofs.InRows.{within, put_row}
use Rattle.part_nodes.proofs.in_link_rows.InLinks.put.Goals as goal

pub returns-clause-more : goal.returns-clause-more
returns-clause-more c =
    let lt = within c.self.inside.rows.items c.args.node (rw (← c.self.view_is) at c.requires) in
    rw (← c.self.view_is) (put_row c.self.inside.rows.items c.args.node c.args.slot c.index_mut.result.now c.push.new.self lt
    c.index_mut.ensures.value c.in_ok-push.ensures.ok)
