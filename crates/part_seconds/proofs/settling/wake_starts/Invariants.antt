use Rattle.std.proofs.Common.{◌≡◌, length}
use Rattle.town.specs.Views.{setup}
use Rattle.partition.specs.Owned.{owner_in}
use Rattle.law_parts_of_days.specs.Settling.{wake_starts}
use Rattle.part_seconds.proofs.settling.wake_starts.Given as goal

abbrev pub invariant-loop-rest : goal.invariant-loop-rest
invariant-loop-rest l = record {
  so_far :
      wake_starts (setup l.run.day.now) (owner_in l.run.owner.now.of_node) l.partition l.second l.rest l.node_wakes
      ≡ wake_starts (setup l.run.day.now) (owner_in l.run.owner.now.of_node) l.partition l.second l.links l.initial.node_wakes;
  count : length l.node_wakes ≡ length l.run.day.now.town.now.network.nodes;
}

abbrev pub decreases-loop-rest : goal.decreases-loop-rest
decreases-loop-rest l = length l.rest
