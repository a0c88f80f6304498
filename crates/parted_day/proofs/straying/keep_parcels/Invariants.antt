use Rattle.std.proofs.Common.{◌≡◌, ◌++◌, drop}
use Rattle.partition.specs.Owned.{owner_in}
use Rattle.town.specs.Views.{setup}
use Rattle.parted_day.specs.Strays.{strays_over}
use Rattle.parted_day.proofs.straying.keep_parcels.Given as goal

abbrev pub invariant-loop-place : goal.invariant-loop-place
invariant-loop-place l =
    let S = setup l.run.day.now in
    let own = owner_in l.run.owner.now.of_node in
    l.strays.items ++ strays_over S own l.partition l.second (drop l.place l.borders)
    ≡ l.initial.strays.items ++ strays_over S own l.partition l.second l.borders
