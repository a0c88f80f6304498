use Rattle.traffic.proofs.Common.{◌≡◌, ◌++◌, drop, from_wait}
use Rattle.plain_turns.specs.Limits.{AreSmall}
use Rattle.plain_turns.proofs.links.push_from_wait.Given as goal

abbrev pub invariant-loop-row : goal.invariant-loop-row
invariant-loop-row l = record {
  moves :
      l.out.items ++ from_wait l.at.rules l.at.second l.at.link l.passage.waiters.items l.passage.buffered l.passage.credit (drop l.row-index l.rows)
      ≡ l.initial.out.items
      ++ from_wait l.at.rules l.at.second l.at.link l.initial.passage.waiters.items l.initial.passage.buffered l.initial.passage.credit l.rows;
  small : AreSmall (drop l.row-index l.rows);
}
