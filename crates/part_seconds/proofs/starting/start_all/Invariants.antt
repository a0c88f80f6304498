use Rattle.std.proofs.Common.{◌≡◌, length}
use Rattle.part_seconds.specs.Starting.{all_started, woken_for_all}
use Rattle.part_seconds.proofs.starting.start_all.Given as goal

abbrev pub invariant-loop-row : goal.invariant-loop-row
invariant-loop-row l = record {
  links : l.links ≡ all_started l.yielded l.initial.links;
  wakes : l.wakes ≡ woken_for_all l.second l.yielded l.initial.wakes;
  count : length l.wakes ≡ length l.links;
}
