use Rattle.std.{proofs.Common.◌≡◌, proofs.Common.◌++◌, specs.List.flat_map}
use Rattle.partition.specs.Owned.{owner_in}
use Rattle.town.specs.Views.{setup}
use Rattle.part_seconds.specs.Sending.{AreMore, more_teleported, if_teleports}
use Rattle.part_seconds.proofs.sending.send_all_teleported.Given as goal

abbrev pub invariant-loop-person : goal.invariant-loop-person
invariant-loop-person l =
    let S = setup l.exits.day.now in
    let own = owner_in l.exits.owner.now.of_node in
    record {
      parcels :
          AreMore (more_teleported S own l.exits.partition l.exits.borders.now l.second l.persons l.yielded) l.initial.parcels l.parcels;
      gone : l.gone.items ≡ l.initial.gone.items ++ flat_map (if_teleports S own l.exits.partition l.second l.persons) l.yielded;
    }
