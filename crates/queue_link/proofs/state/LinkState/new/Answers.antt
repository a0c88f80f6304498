use Rattle.std.proofs.Common.{arith}
use Rattle.queue_link.proofs.Dues.{bay_none}
use Rattle.queue_link.proofs.state.LinkState.new.Goals as goal

pub invariant_of-result : goal.invariant_of-result
invariant_of-result c = (c.requires, omega arith, bay_none c.new-4.result.items c.new-4.ensures.items)
