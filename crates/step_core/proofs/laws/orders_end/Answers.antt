use Rattle.step_core.proofs.Orders.{fewest_may, no_dead_end, no_longer, all_end}
use Rattle.step_core.proofs.laws.orders_end.Goals as goal

pub returns : goal.returns
returns c = record { fewest = fewest_may; no_dead_end = no_dead_end; no_longer = no_longer; end = all_end }
