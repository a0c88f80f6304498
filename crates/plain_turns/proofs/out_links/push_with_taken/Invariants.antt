use Rattle.std.proofs.Common.{◌≡◌, ◌++◌, length}
use Rattle.plain_turns.specs.OutLinks.{with_taken}
use Rattle.plain_turns.proofs.out_links.push_with_taken.Given as goal

abbrev pub invariant-loop-rest : goal.invariant-loop-rest
invariant-loop-rest l = l.out.items ++ with_taken l.link l.rest ≡ l.initial.out.items ++ with_taken l.link l.out_links

abbrev pub decreases-loop-rest : goal.decreases-loop-rest
decreases-loop-rest l = length l.rest
