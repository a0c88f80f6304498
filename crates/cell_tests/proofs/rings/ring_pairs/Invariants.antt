use Rattle.cell_tests.proofs.Pairs.{AreRing}
use Rattle.cell_tests.proofs.rings.ring_pairs.Given as goal

abbrev pub invariant-loop-p : goal.invariant-loop-p
invariant-loop-p l = AreRing l.count l.there l.back l.p l.pairs.items
