use Rattle.plan_memory.proofs.Orders.{worst_is_lowest, best_is_highest}
use Rattle.plan_memory.proofs.laws.worst_and_best_plans_are_there.Goals as goal

pub returns : goal.returns
returns c = assumption (worst_is_lowest, best_is_highest)
