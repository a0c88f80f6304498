use Rattle.town.specs.Views.{setup}
use Rattle.person_moves.proofs.{Leaving.can_leave, Leaving.fits_at, PersonPlans.leaving_is}
use Rattle.person_moves.proofs.persons.leaving_moves.Goals as goal

pub leaving-requires-clause-leg : goal.leaving-requires-clause-leg
leaving-requires-clause-leg c = can_leave (setup c.args.day.now) c.args.i c.chosen_plan-plan.result.now c.args.person c.chosen_plan-plan.ensures c.requires.leg

pub leaving-requires-clause-fits : goal.leaving-requires-clause-fits
leaving-requires-clause-fits c = fits_at c.args.day.now c.args.i c.chosen_plan-plan.result.now c.requires.there c.chosen_plan-plan.ensures c.requires.fits

pub returns : goal.returns
returns c =
    leaving_is c.args.day.now c.args.second c.args.i c.chosen_plan-plan.result.now c.args.person c.in_ok-moves.moves.items c.chosen_plan-plan.ensures c.in_ok-moves.ensures
