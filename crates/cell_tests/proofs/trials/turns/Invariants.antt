use Rattle.cell_tests.specs.Members.{AreMembers}
use Rattle.cell_tests.proofs.trials.turns.Given as goal

abbrev pub invariant-loop : goal.invariant-loop
invariant-loop l = AreMembers l.board l.members
