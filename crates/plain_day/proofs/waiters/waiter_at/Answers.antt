use Rattle.traffic.proofs.Common.{option_to_list}
use Rattle.plain_day.proofs.PersonPlans.{waiter_is}
use Rattle.plain_day.proofs.waiters.waiter_at.Goals as goal

pub returns : goal.returns
returns c =
    waiter_is c.args.day.now c.args.link c.args.i c.args.world.now c.chosen_plan-plan.result.now c.person_of-person.result (option_to_list c.waiter.result)
    c.chosen_plan-plan.ensures c.person_of-person.ensures c.waiter.ensures
