use Rattle.std.{proofs.Common.◌≡◌, proofs.Common.◌++◌, proofs.Common.string_bytes, specs.List.flat_map, specs.List.range_with_len}
use Rattle.workload.specs.Texts.{person_lines}
use Rattle.workload.proofs.persons.push_persons.Given as goal

abbrev pub invariant-loop-person : goal.invariant-loop-person
invariant-loop-person l = string_bytes l.text ≡ string_bytes l.initial.text ++ flat_map (person_lines l.size l.links l.seed) (range_with_len 0 l.person)
