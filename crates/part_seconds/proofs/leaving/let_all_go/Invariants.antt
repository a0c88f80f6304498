use Rattle.node_seconds.specs.Networks.{is_among}
use Rattle.part_seconds.specs.Leaving.{AreWithout}
use Rattle.part_seconds.proofs.leaving.let_all_go.Given as goal

abbrev pub invariant-loop-person : goal.invariant-loop-person
invariant-loop-person l = AreWithout (λ i. is_among i l.yielded) l.initial.persons l.persons
