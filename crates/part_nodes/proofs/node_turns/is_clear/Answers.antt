use Rattle.part_nodes.proofs.Clear.{clear_is}
use Rattle.part_nodes.proofs.node_turns.is_clear.Goals as goal

pub returns : goal.returns
returns c =
    clear_is c.idle.result c.args.link.now.lists.queue c.args.link.now.lists.wait c.args.link.now.lists.bay c.idle.ensures
