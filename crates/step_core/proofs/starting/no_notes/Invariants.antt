use Rattle.std.proofs.Common.{◌≡◌, length}
use Rattle.step_core.proofs.starting.no_notes.Given as goal

abbrev pub invariant-loop-row : goal.invariant-loop-row
invariant-loop-row l = length l.noted.items ≡ l._row
