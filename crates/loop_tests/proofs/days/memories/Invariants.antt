use Rattle.std.proofs.Common.{◌≡◌, length, true}
use Rattle.replanning.specs.Persons.{all_are_on}
use Rattle.loop_tests.proofs.days.memories.Given as goal

abbrev pub invariant-loop : goal.invariant-loop
invariant-loop l = record {
  on : all_are_on 6 l.all.items ≡ true;
  count : length l.all.items ≡ l.counter;
}
