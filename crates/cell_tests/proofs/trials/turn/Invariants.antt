use Rattle.cell_tests.specs.Members.{AreMembers}
use Rattle.cell_tests.proofs.trials.turn.Given as goal

abbrev pub invariant-loop-k : goal.invariant-loop-k
invariant-loop-k l = AreMembers l.board l.members
