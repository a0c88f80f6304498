use Rattle.std.{proofs.Common.◌≡◌, proofs.Common.◌++◌, proofs.Common.length, specs.Prelude.map}
use Rattle.part_seconds.specs.Arriving.{Come, all_riding, entering_by}
use Rattle.part_seconds.proofs.arriving.bring_vehicles.Given as goal

abbrev pub invariant-loop-moved : goal.invariant-loop-moved
invariant-loop-moved l = record {
  come : Come l.day (λ i. all_riding i l.yielded) l.initial.persons l.persons;
  plans : length l.persons.world.persons ≡ length l.day.chosen.now;
  wakes : length l.persons.wakes ≡ length l.persons.world.persons;
  entering : l.entering.items ≡ l.initial.entering.items ++ map entering_by l.yielded;
}
