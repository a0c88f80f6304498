use Rattle.std.proofs.Common.{◌+◌, length, take}
use Rattle.partition.specs.Owned.{owner_in}
use Rattle.town.specs.Views.{setup}
use Rattle.part_places.specs.Taking.{Taking, AreTakenOf, begins_here}
use Rattle.part_seconds.specs.Settling.{left_all, AreFew, AreApart}
use Rattle.part_seconds.proofs.settling.leave_places.Given as goal

abbrev pub invariant-loop-slot : goal.invariant-loop-slot
invariant-loop-slot l = record {
  places :
      (T : Taking) → AreApart l.links → AreFew (setup l.run.day.now) (owner_in l.run.owner.now.of_node) l.partition l.links T
      → AreTakenOf (begins_here (setup l.run.day.now) (owner_in l.run.owner.now.of_node) l.partition) (length (setup l.run.day.now).links)
      l.run.day.now.town.now.settings.end_second (l.second + 1) T l.initial.places
      → AreTakenOf (begins_here (setup l.run.day.now) (owner_in l.run.owner.now.of_node) l.partition) (length (setup l.run.day.now).links)
      l.run.day.now.town.now.settings.end_second (l.second + 1)
      (left_all (setup l.run.day.now) (owner_in l.run.owner.now.of_node) l.partition l.second l.links (take l.slot-index l.slots) T) l.places;
}
