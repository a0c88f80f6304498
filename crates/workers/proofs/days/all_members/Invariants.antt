use Rattle.std.proofs.Common.{◌≡◌, ℕ, ◌≤◌, false, length}
use Rattle.cells.specs.{Ports.IsHub, Ports.had_port, Rule.contains}
use Rattle.step_core.specs.Views.{EachAt}
use Rattle.workers.specs.{Members.IsBoardOfRun, Members.AreMembers, Members.AreAll, Members.AllEnd, Sharing.ArePartsOf}
use Rattle.workers.proofs.days.all_members.Given as goal

abbrev pub invariant-loop-part : goal.invariant-loop-part
invariant-loop-part g l = record {
  hub : IsHub l.board l.hub;
  free : (q : ℕ) → l.number ≤ q → contains (had_port l.hub) q ≡ false;
  counted : l.number ≡ length l.yielded;
  members : (run : g.row.T-Run.Denot) → IsBoardOfRun g.T.Part.net g.T.Part.borders g.T.Part.nothing g.T.Part.right run l.board
      → EachAt g.T.Part.nothing g.T.Part.see (g.T.Part.stands run) 0 (λ p. length (g.T.Part.borders run p)) (length l.yielded) l.yielded
      → AreMembers (g.T.Part.net run).end g.T.Part.borders g.T.Part.nothing g.T.Part.see g.T.Part.stands g.T.Part.spent g.T.Part.right run
      l.board l.members.items;
  all : AreAll l.number l.members.items;
  own : ArePartsOf l.members.items l.number l.yielded;
  level : AllEnd 0 l.members.items;
}
