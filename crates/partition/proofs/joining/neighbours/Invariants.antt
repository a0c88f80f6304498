use Rattle.std.{proofs.Common.◌≡◌, specs.List.flat_map, specs.Prelude.filter}
use Rattle.traffic.specs.Lists.{below}
use Rattle.partition.specs.Neighbours.{is_joined, pairs_from}
use Rattle.partition.proofs.joining.neighbours.Given as goal

abbrev pub invariant-loop-lesser : goal.invariant-loop-lesser
invariant-loop-lesser l = l.pairs.items ≡ filter (is_joined l.joined.items) (flat_map (pairs_from l.owner.parts) (below l.lesser))
