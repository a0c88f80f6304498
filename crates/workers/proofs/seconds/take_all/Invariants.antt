use Rattle.workers.specs.Exchanges.{HasTakenTo}
use Rattle.workers.proofs.seconds.take_all.Given as goal

abbrev pub invariant-loop-k : goal.invariant-loop-k
invariant-loop-k g l = HasTakenTo g.T.Part.nothing g.T.Part.see g.T.Part.stands g.T.Part.right l.board l.initial.port l.initial.part l.k
    l.port l.part
