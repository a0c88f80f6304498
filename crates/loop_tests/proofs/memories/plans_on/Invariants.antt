use Rattle.std.proofs.Common.{◌≡◌, length}
use Rattle.loop_tests.proofs.memories.plans_on.Given as goal

abbrev pub invariant-loop-link : goal.invariant-loop-link
invariant-loop-link l = length l.rows.items ≡ l.link
