use Rattle.workers.specs.Exchanges.{HasPutTo}
use Rattle.workers.proofs.seconds.put_all.Given as goal

abbrev pub invariant-loop-k : goal.invariant-loop-k
invariant-loop-k g l = HasPutTo g.T.Part.nothing g.T.Part.see g.T.Part.stands g.T.Part.right l.board l.initial.port l.initial.part l.k
    l.port l.part
