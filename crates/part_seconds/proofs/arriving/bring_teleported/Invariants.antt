use Rattle.std.{proofs.Common.◌≡◌, proofs.Common.length, specs.List.flat_map}
use Rattle.part_seconds.specs.Arriving.{Come, teleporting_in}
use Rattle.part_seconds.proofs.arriving.bring_teleported.Given as goal

abbrev pub invariant-loop-sent : goal.invariant-loop-sent
invariant-loop-sent l = record {
  come : Come l.day (λ i. flat_map (teleporting_in i l.second) l.yielded) l.initial.persons l.persons;
  plans : length l.persons.world.persons ≡ length l.day.chosen.now;
  wakes : length l.persons.wakes ≡ length l.persons.world.persons;
}
