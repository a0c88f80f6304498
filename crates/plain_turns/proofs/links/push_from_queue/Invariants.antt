use Rattle.traffic.proofs.Common.{◌≡◌, ◌++◌, drop, from_queue}
use Rattle.plain_turns.specs.Limits.{AreSmall}
use Rattle.plain_turns.proofs.links.push_from_queue.Given as goal

abbrev pub invariant-loop-row : goal.invariant-loop-row
invariant-loop-row l = record {
  moves :
      l.out.items
      ++ from_queue l.at.rules l.at.second l.at.link l.passage.waiters.items l.passage.buffered l.passage.credit (drop l.row-index l.rows) l.wait
      ≡ l.initial.out.items
      ++ from_queue l.at.rules l.at.second l.at.link l.initial.passage.waiters.items l.initial.passage.buffered l.initial.passage.credit l.rows l.wait;
  small : AreSmall (drop l.row-index l.rows);
}
