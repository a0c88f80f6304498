use Rattle.std.proofs.Common.{◌≡◌, length}
use Rattle.calendar.specs.Due.{AreIn}
use Rattle.town.specs.Views.{setup}
use Rattle.law_parts_of_days.specs.Settling.{wake_ends}
use Rattle.part_seconds.proofs.settling.wake_ends.Given as goal

abbrev pub invariant-loop-rest : goal.invariant-loop-rest
invariant-loop-rest l = record {
  so_far :
      wake_ends (setup l.day) l.second l.links l.rest l.node_wakes
      ≡ wake_ends (setup l.day) l.second l.links l.slots l.initial.node_wakes;
  there : AreIn (length l.links) l.rest;
  count : length l.node_wakes ≡ length l.day.town.now.network.nodes;
}

abbrev pub decreases-loop-rest : goal.decreases-loop-rest
decreases-loop-rest l = length l.rest
