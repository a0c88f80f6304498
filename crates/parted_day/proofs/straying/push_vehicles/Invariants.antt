use Rattle.std.{proofs.Common.◌≡◌, proofs.Common.◌++◌, proofs.Common.drop, specs.List.flat_map}
use Rattle.parted_day.specs.Strays.{moved_strays}
use Rattle.parted_day.proofs.straying.push_vehicles.Given as goal

abbrev pub invariant-loop-moved : goal.invariant-loop-moved
invariant-loop-moved l =
    l.strays.items ++ flat_map moved_strays (drop l.moved-index l.vehicles) ≡ l.initial.strays.items ++ flat_map moved_strays l.vehicles
