use Rattle.traffic.proofs.Common.{◌≡◌, ◌++◌, ◌+◌, ◌≤◌, drop, leave_bay}
use Rattle.plain_turns.proofs.links.push_leave_bay.Given as goal

abbrev pub invariant-loop-row : goal.invariant-loop-row
invariant-loop-row l = record {
  moves : l.out.items ++ leave_bay l.second l.l l.k (drop l.row-index l.bay) ≡ l.initial.out.items ++ leave_bay l.second l.l l.initial.k l.bay;
  places : l.k ≤ l.initial.k + l.row-index;
}
