use Rattle.std.proofs.Common.{◌≡◌, ◌++◌, drop}
use Rattle.parted_day.specs.Absorbed.{entered_slots}
use Rattle.parted_day.proofs.absorbing_parcel.entered_slots.Given as goal

abbrev pub invariant-loop-vehicle : goal.invariant-loop-vehicle
invariant-loop-vehicle l =
    l.slots.items ++ entered_slots l.link_slots (drop l.vehicle-index l.entering) ≡ entered_slots l.link_slots l.entering
