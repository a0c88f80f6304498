use Rattle.workers.specs.Pairs.{ArePairsTo}
use Rattle.workers.proofs.pairs.push_pairs_of.Given as goal

abbrev pub invariant-loop-q : goal.invariant-loop-q
invariant-loop-q g l = ArePairsTo (g.T.Part.net l.run) l.p l.q l.pairs.items
