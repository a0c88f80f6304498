use Rattle.std.proofs.Common.{length}
use Rattle.travel_times.proofs.Networks.{all_move}
use Rattle.travel_times.proofs.link_times.LinkTimes.free.Goals as goal

pub free_links-requires : goal.free_links-requires
free_links-requires c = all_move (length c.args.network.now.nodes) c.args.network.now.links c.args.network.now.sound
