use Rattle.std.proofs.Common.{◌≡◌, ℕ, ◌<◌, ◌≤◌, true, length, vec_len}
use Rattle.cells.specs.{Ports.IsHub, Ports.joined, Rule.contains}
use Rattle.cell_tests.specs.Members.{AreMembers}
use Rattle.cell_tests.proofs.trials.closes.Given as goal

abbrev pub invariant-loop-member : goal.invariant-loop-member
invariant-loop-member l =
    IsHub l.board l.hub × AreMembers l.board l.members.items
    × ((p : ℕ) → length l.members.items ≤ p → p < l.count → contains (joined l.hub) p ≡ true)

abbrev pub decreases-loop-member : goal.decreases-loop-member
decreases-loop-member l = vec_len l.members
