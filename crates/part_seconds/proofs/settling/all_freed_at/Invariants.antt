use Rattle.std.{proofs.Common.◌≡◌, proofs.Common.◌++◌, proofs.Common.length, specs.List.flat_map}
use Rattle.calendar.specs.Due.{AreIn}
use Rattle.partition.specs.Owned.{owner_in}
use Rattle.town.specs.Views.{setup}
use Rattle.part_seconds.specs.Settling.{freed_at}
use Rattle.part_seconds.proofs.settling.all_freed_at.Given as goal

abbrev pub invariant-loop-rest : goal.invariant-loop-rest
invariant-loop-rest l = record {
  so_far :
      l.freed.items ++ flat_map (freed_at (setup l.run.day.now) (owner_in l.run.owner.now.of_node) l.partition l.links l.queues) l.rest
      ≡ flat_map (freed_at (setup l.run.day.now) (owner_in l.run.owner.now.of_node) l.partition l.links l.queues) l.slots;
  there : AreIn (length l.links) l.rest;
}

abbrev pub decreases-loop-rest : goal.decreases-loop-rest
decreases-loop-rest l = length l.rest
