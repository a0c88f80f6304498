use Rattle.std.{proofs.Common.◌≡◌, proofs.Common.◌++◌, specs.List.flat_map, specs.Prelude.map, specs.Prelude.filter}
use Rattle.traffic.specs.{Links.waiting, Telling.goes_on}
use Rattle.queue_link.specs.Turns.{is_due, left_in_bay}
use Rattle.queue_link.proofs.begins.leave_bay.Given as goal

abbrev pub invariant-loop-row : goal.invariant-loop-row
invariant-loop-row l = record {
  left : l.left.items ≡ left_in_bay l.second l.yielded;
  wait : l.wait.items ≡ l.initial.wait.items ++ map (waiting l.link) (filter (is_due l.second) l.yielded);
  told : l.said.items ≡ l.initial.said.items ++ flat_map goes_on (filter (is_due l.second) l.yielded);
}
