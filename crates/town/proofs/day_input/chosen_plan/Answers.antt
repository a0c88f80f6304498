use Rattle.traffic.proofs.Common.{◌∙◌, ap, plan_rows}
use Rattle.town.proofs.Chosen.{plan_there}
use Rattle.town.proofs.day_input.chosen_plan.Goals as goal

pub returns : goal.returns
returns c =
    plan_there c.args.day.now c.args.person c.index-day-person.result c.requires c.index-day-person.is ∙ ap plan_rows c.index-day-person.is
