use Rattle.std.proofs.Common.{◌≡◌}
use Rattle.traffic.specs.Lists.{below}
use Rattle.partition.proofs.halving.numbers_below.Given as goal

abbrev pub invariant-loop-number : goal.invariant-loop-number
invariant-loop-number l = l.numbers.items ≡ below l.number
