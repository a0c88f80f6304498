use Rattle.part_seconds.proofs.Without.{nobody_goes, one_more_goes}
use Rattle.part_seconds.proofs.leaving.let_all_go.Goals as goal

pub loop-person-init : goal.loop-person-init
loop-person-init c = nobody_goes c.args.persons.now

pub loop-person-preserved : goal.loop-person-preserved
loop-person-preserved c =
    one_more_goes c.in-Some.person c.loop-person.yielded c.args.persons.now c.loop-person.persons _ c.loop-person.invariant c.let_go.ensures
