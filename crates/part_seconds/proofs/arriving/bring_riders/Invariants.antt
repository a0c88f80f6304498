use Rattle.std.proofs.Common.{◌≡◌, length, take}
use Rattle.law_partitions.specs.Alone.{riding}
use Rattle.part_seconds.specs.Arriving.{Come}
use Rattle.part_seconds.proofs.arriving.bring_riders.Given as goal

abbrev pub invariant-loop-place : goal.invariant-loop-place
invariant-loop-place l = record {
  come : Come l.day (λ i. riding i l.vehicle (take l.place l.riders) (take l.place l.elements)) l.initial.persons l.persons;
  plans : length l.persons.world.persons ≡ length l.day.chosen.now;
  wakes : length l.persons.wakes ≡ length l.persons.world.persons;
}
