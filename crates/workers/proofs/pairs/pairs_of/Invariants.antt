use Rattle.std.proofs.Common.{◌+◌}
use Rattle.workers.specs.Pairs.{ArePairsTo}
use Rattle.workers.proofs.pairs.pairs_of.Given as goal

abbrev pub invariant-loop-p : goal.invariant-loop-p
invariant-loop-p g l = ArePairsTo (g.T.Part.net l.run) l.p (l.p + 1) l.pairs.items
