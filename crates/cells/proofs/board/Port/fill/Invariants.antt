use Rattle.cells.specs.Ports.{IsFilling}
use Rattle.cells.proofs.board.Port.fill.Given as goal

abbrev pub invariant-loop-k : goal.invariant-loop-k
invariant-loop-k g l = IsFilling g.T.Exchange.right l.board l.initial.self l.self

abbrev pub decreases-loop-k : goal.decreases-loop-k
decreases-loop-k g l = goal.left-loop-k g l
