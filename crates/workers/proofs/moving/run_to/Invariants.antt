use Rattle.std.proofs.Common.{◌≤◌}
use Rattle.workers.specs.Members.{Went}
use Rattle.workers.proofs.moving.run_to.Given as goal

abbrev pub invariant-loop : goal.invariant-loop
invariant-loop g l = Went l.until g.T.Part.borders g.T.Part.nothing g.T.Part.see g.T.Part.stands g.T.Part.spent g.T.Part.right l.run
    l.board
    l.initial.bundle.members.items
    l.bundle.members.items × (1 ≤ l.workers)
