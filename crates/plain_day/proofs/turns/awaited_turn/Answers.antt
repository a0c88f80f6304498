use Rattle.plain_day.proofs.NodeTurns.{node_is, few_in_links}
use Rattle.plain_day.proofs.turns.awaited_turn.Goals as goal

pub node_moves-requires-clause-few : goal.node_moves-requires-clause-few
node_moves-requires-clause-few c =
    few_in_links c.args.day.now c.args.second c.args.node c.args.world.now c.in_ok-in_links.in_links.items c.in_ok-in_links.ensures.value (c.args.day.now.town.now.network.few_in_links c.args.node)

pub returns : goal.returns
returns c =
    node_is c.args.day.now c.args.second c.args.node c.args.world.now c.in_ok-in_links.in_links.items c.in_ok-out_links.out_links.items c.of_node-draws.result
    c.in_ok-moves.moves.items c.requires.fit c.in_ok-in_links.ensures.value c.in_ok-out_links.ensures.value c.of_node-draws.ensures c.in_ok-moves.ensures
