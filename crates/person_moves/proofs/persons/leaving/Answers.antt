use Rattle.traffic.proofs.Common.{◌∙◌, sym, ◌/◌, plan_rows}
use Rattle.town.specs.Views.{rows_of, setup}
use Rattle.person_moves.proofs.Leaving.{has_leg, has_route, left_is}
use Rattle.person_moves.proofs.persons.leaving.Goals as goal

pub leave_for-requires-clause-there : goal.leave_for-requires-clause-there
leave_for-requires-clause-there c = has_leg c.args.plan.now c.args.person c.args.second (sym c.ends_in.ensures ∙ c.if-not-ends_in.false) c.requires.leg

pub leave_for-requires-clause-route : goal.leave_for-requires-clause-route
leave_for-requires-clause-route c =
    has_route (rows_of c.args.day.now.town.now) (plan_rows c.args.plan.now) (c.args.person.element / 2)
    (has_leg c.args.plan.now c.args.person c.args.second (sym c.ends_in.ensures ∙ c.if-not-ends_in.false) c.requires.leg) c.requires.fits

pub returns : goal.returns
returns c =
    left_is (setup c.args.day.now) c.args.second c.args.i c.args.plan.now c.args.person c.act_in-here.result c.act_after-next.result c.in_ok-moves.moves.items
    c.act_in-here.ensures c.act_after-next.ensures (sym c.ends_in.ensures ∙ c.if-not-ends_in.false) c.in_ok-moves.ensures
