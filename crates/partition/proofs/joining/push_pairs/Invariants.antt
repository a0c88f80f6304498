use Rattle.std.{proofs.Common.◌≡◌, proofs.Common.◌++◌, proofs.Common.◌-◌, proofs.Common.◌+◌, proofs.Common.map, specs.Prelude.filter}
use Rattle.traffic.specs.Lists.{numbers}
use Rattle.partition.specs.Neighbours.{is_joined, pair, pairs_from}
use Rattle.partition.proofs.joining.push_pairs.Given as goal

abbrev pub invariant-loop-greater : goal.invariant-loop-greater
invariant-loop-greater l = l.pairs.items ++ filter (is_joined l.joined) (map (pair l.lesser) (numbers l.greater (l.parts - l.greater))) ≡ l.initial.pairs.items ++ filter (is_joined l.joined) (pairs_from l.parts l.lesser)
