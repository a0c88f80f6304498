use Rattle.std.proofs.Common.{◌≡◌, ◌++◌, take}
use Rattle.parted_day.specs.Strays.{stray_riders}
use Rattle.parted_day.proofs.straying.push_riders.Given as goal

abbrev pub invariant-loop-place : goal.invariant-loop-place
invariant-loop-place l =
    l.strays.items ≡ l.initial.strays.items ++ stray_riders l.link l.vehicle (take l.place l.riders) (take l.place l.elements)
