use Rattle.person_moves.proofs.PersonPlans.{landing_is}
use Rattle.person_moves.proofs.persons.landing_moves.Goals as goal

pub returns : goal.returns
returns c = landing_is c.args.day.now c.args.second c.args.i c.chosen_plan-plan.result.now c.args.person c.in_ok-moves.moves.items c.chosen_plan-plan.ensures c.in_ok-moves.ensures
