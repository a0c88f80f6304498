use Rattle.std.proofs.Common.{◌≡◌, length}
use Rattle.part_nodes.specs.Turns.{wake_all_emptied, AreThere}
use Rattle.part_nodes.proofs.node_turns.wake_all_emptied.Given as goal

abbrev pub invariant-loop-rest : goal.invariant-loop-rest
invariant-loop-rest l = record {
  so_far : wake_all_emptied l.second l.rest l.links l.wakes ≡ wake_all_emptied l.second l.before l.links l.initial.wakes;
  there : AreThere (length l.links) l.rest;
  count : length l.wakes ≡ length l.links;
}

abbrev pub decreases-loop-rest : goal.decreases-loop-rest
decreases-loop-rest l = length l.rest
