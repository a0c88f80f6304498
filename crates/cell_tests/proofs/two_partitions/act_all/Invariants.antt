use Rattle.cell_tests.specs.Members.{AreMembers}
use Rattle.cell_tests.proofs.two_partitions.act_all.Given as goal

abbrev pub invariant-loop-act : goal.invariant-loop-act
invariant-loop-act l = AreMembers l.board l.members
