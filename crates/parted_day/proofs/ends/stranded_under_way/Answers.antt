use Rattle.traffic.proofs.Common.{◌∙◌, ap, sym, PlanRows, plan_rows, act_in, leg_in, mode_of_leg, Act, Mode}
use Rattle.traffic.specs.Persons.{stuck_on}
use Rattle.town.specs.Views.{setup}
use Rattle.parted_day.proofs.ends.stranded_under_way.Goals as goal

pub returns : goal.returns
returns c =
    let S = setup c.args.day.now in
    let P = c.args.state in
    c.stuck_on.ensures
    ∙ ap (λ (x : Act). stuck_on S c.args.link c.args.person x c.mode_in-mode.result P.place) c.act_in-here.ensures
    ∙ ap (λ (x : Mode). stuck_on S c.args.link c.args.person (act_in (plan_rows c.chosen_plan-plan.result.now) P.element) x P.place)
    c.mode_in-mode.ensures
    ∙ ap (λ (x : PlanRows). stuck_on S c.args.link c.args.person (act_in x P.element) (mode_of_leg (leg_in x P.element)) P.place)
    (sym c.chosen_plan-plan.ensures)
