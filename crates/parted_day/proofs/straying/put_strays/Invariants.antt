use Rattle.std.proofs.Common.{◌≡◌, length}
use Rattle.parted_day.specs.Tables.{with_states, with_links}
use Rattle.parted_day.proofs.straying.put_strays.Given as goal

abbrev pub invariant-loop-rest : goal.invariant-loop-rest
invariant-loop-rest l = record {
  persons : with_states l.rest l.persons ≡ with_states l.strays l.initial.persons;
  links : with_links l.rest l.links ≡ with_links l.strays l.initial.links;
}

abbrev pub decreases-loop-rest : goal.decreases-loop-rest
decreases-loop-rest l = length l.rest
