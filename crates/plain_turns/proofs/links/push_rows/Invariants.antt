use Rattle.std.proofs.Common.{◌≡◌, ◌++◌, drop}
use Rattle.plain_turns.proofs.links.push_rows.Given as goal

abbrev pub invariant-loop-row : goal.invariant-loop-row
invariant-loop-row l = l.out.items ++ drop l.row-index l.rows ≡ l.initial.out.items ++ l.rows
