use Rattle.std.{proofs.Common.◌≡◌, proofs.Common.◌++◌, specs.List.flat_map}
use Rattle.partition.specs.Owned.{owner_in}
use Rattle.town.specs.Views.{setup}
use Rattle.part_seconds.specs.Sending.{AreMore, more_vehicles, riders_of}
use Rattle.part_seconds.proofs.sending.send_vehicles.Given as goal

abbrev pub invariant-loop-vehicle : goal.invariant-loop-vehicle
invariant-loop-vehicle l = record {
  parcels :
      AreMore (more_vehicles (setup l.exits.day.now) (owner_in l.exits.owner.now.of_node) l.exits.borders.now l.persons l.yielded)
      l.initial.parcels l.parcels;
  gone : l.gone.items ≡ l.initial.gone.items ++ flat_map riders_of l.yielded;
}
