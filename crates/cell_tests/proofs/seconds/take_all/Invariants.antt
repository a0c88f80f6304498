use Rattle.cell_tests.proofs.Taking.{HasTaken}
use Rattle.cell_tests.proofs.seconds.take_all.Given as goal

abbrev pub invariant-loop-k : goal.invariant-loop-k
invariant-loop-k l = HasTaken l.board l.initial.port l.k l.port
