use Rattle.workers.specs.Members.{RoundTo}
use Rattle.workers.proofs.bundles.round.Given as goal

abbrev pub invariant-loop-k : goal.invariant-loop-k
invariant-loop-k g l = RoundTo l.until g.T.Part.borders g.T.Part.nothing g.T.Part.see g.T.Part.stands g.T.Part.spent g.T.Part.right
    l.run l.board
    l.k l.stopped l.moved l.waited l.initial.members l.members
