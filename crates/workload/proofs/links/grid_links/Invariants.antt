use Rattle.std.{proofs.Common.◌≡◌, proofs.Common.◌≤◌, proofs.Common.◌*◌, proofs.Common.length, specs.List.flat_map, specs.List.range_with_len}
use Rattle.workload.specs.Links.{links_from}
use Rattle.workload.proofs.links.grid_links.Given as goal

abbrev pub invariant-loop-node : goal.invariant-loop-node
invariant-loop-node l = (l.links.items ≡ flat_map (links_from l.size) (range_with_len 0 l.node)) × (length l.links.items ≤ 4 * l.node)
