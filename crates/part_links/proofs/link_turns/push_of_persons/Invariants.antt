use Rattle.std.proofs.Common.{◌≡◌, length, ◌++◌}
use Rattle.part_links.specs.Phase.{of_persons}
use Rattle.part_links.proofs.link_turns.push_of_persons.Given as goal

abbrev pub invariant-loop-rest : goal.invariant-loop-rest
invariant-loop-rest l = l.heard.items ++ of_persons l.rest ≡ l.initial.heard.items ++ of_persons l.said

abbrev pub decreases-loop-rest : goal.decreases-loop-rest
decreases-loop-rest l = length l.rest
