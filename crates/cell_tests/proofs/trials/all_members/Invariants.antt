use Rattle.std.proofs.Common.{◌≡◌, ℕ, ◌≤◌, false}
use Rattle.cells.specs.{Ports.IsHub, Ports.had_port, Rule.contains}
use Rattle.cell_tests.specs.Members.{AreMembers}
use Rattle.cell_tests.proofs.trials.all_members.Given as goal

abbrev pub invariant-loop-p : goal.invariant-loop-p
invariant-loop-p l =
    IsHub l.board l.hub × ((q : ℕ) → l.p ≤ q → contains (had_port l.hub) q ≡ false) × AreMembers l.board l.members.items
