use Rattle.partition.specs.Owned.{owner_in}
use Rattle.town.specs.Views.{setup}
use Rattle.part_seconds.specs.Sending.{AreMore, more_freed}
use Rattle.part_seconds.proofs.sending.send_all_freed.Given as goal

abbrev pub invariant-loop-freed_places : goal.invariant-loop-freed_places
invariant-loop-freed_places l =
    AreMore (more_freed (setup l.exits.day.now) (owner_in l.exits.owner.now.of_node) l.exits.borders.now l.yielded) l.initial.parcels
    l.parcels
