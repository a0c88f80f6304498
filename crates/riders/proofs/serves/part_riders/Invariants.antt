use Rattle.std.proofs.Common.{◌≡◌, ◌++◌, ◌≤◌, length, drop}
use Rattle.traffic.specs.Stops.{alighting, staying}
use Rattle.riders.proofs.serves.part_riders.Given as goal

abbrev pub invariant-loop-rider : goal.invariant-loop-rider
invariant-loop-rider l = record {
  alighted : l.alighted.items ++ alighting l.stop (drop l.rider-index l.riders) ≡ alighting l.stop l.riders;
  few : length l.alighted.items ≤ l.rider-index;
  staying : l.staying.items ++ staying l.stop (drop l.rider-index l.riders) ≡ staying l.stop l.riders;
}
