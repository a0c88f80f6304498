use Rattle.traffic.proofs.Order.{day-ascends}
use Rattle.traffic.proofs.laws.days_are_in_order.Goals as goal

pub returns : goal.returns
returns c = day-ascends
