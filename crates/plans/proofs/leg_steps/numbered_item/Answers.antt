use Rattle.std.proofs.Common.{arith}
use Rattle.plans.proofs.Items.{item_is_name}
use Rattle.plans.proofs.leg_steps.numbered_item.Goals as goal

pub number-requires : goal.number-requires
number-requires c = item_is_name c.args.items.now c.args.place _ c.requires.names (omega arith)
