use Rattle.traffic.proofs.Common.{◌∙◌, ap, leg_in, plan_rows}
use Rattle.person_moves.{proofs.PersonPlans.mode_is, specs.Legs.mode_of_kind}
use Rattle.person_moves.proofs.legs.mode_in.Goals as goal

pub returns : goal.returns
returns c = c.mode_of_kind.ensures ∙ ap mode_of_kind c.kind_in.ensures ∙ mode_is (leg_in (plan_rows c.args.plan.now) c.args.element)
