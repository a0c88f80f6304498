use Rattle.std.{proofs.Common.◌≡◌, proofs.Common.◌++◌, proofs.Common.drop, specs.List.flat_map}
use Rattle.traffic.specs.Telling.{enters}
use Rattle.vehicles.proofs.telling.push_all_enter.Given as goal

abbrev pub invariant-loop-rider : goal.invariant-loop-rider
invariant-loop-rider l = l.out.items ++ flat_map (enters l.vehicle) (drop l.rider-index l.riders)
    ≡ l.initial.out.items ++ flat_map (enters l.vehicle) l.riders
