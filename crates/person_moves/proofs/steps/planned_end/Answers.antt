use Rattle.traffic.proofs.Common.{◌∙◌, ap, sym, act_in, PlanRows, Act}
use Rattle.town.proofs.Chosen.{plan_past}
use Rattle.person_moves.proofs.steps.planned_end.Goals as goal

pub returns-then-person-day : goal.returns-then-person-day
returns-then-person-day c =
    ap (λ (a : Act). a.end) c.act_in.ensures ∙ sym (ap (λ (plan : PlanRows). (act_in plan c.args.element).end) c.chosen_plan.ensures)

pub returns : goal.returns
returns c = sym (ap (λ (plan : PlanRows). (act_in plan c.args.element).end) (plan_past c.args.day.now c.args.person c.if-person-day.false))
