use Rattle.traffic.proofs.Common.{option_to_list}
use Rattle.plain_day.proofs.PersonPlans.{stranded_is}
use Rattle.plain_day.proofs.ends.stranded.Goals as goal

pub returns : goal.returns
returns c =
    stranded_is c.args.day.now c.args.i c.args.world.now c.chosen_plan-plan.result.now c.person_of-person.result c.act_in-here.result c.mode_in-mode.result
    (option_to_list c.stuck_at.result) c.chosen_plan-plan.ensures c.person_of-person.ensures c.act_in-here.ensures c.mode_in-mode.ensures c.stuck_at.ensures
