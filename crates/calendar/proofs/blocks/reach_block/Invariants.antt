use Rattle.std.proofs.Common.{◌+◌, ◌-◌, length}
use Rattle.calendar.specs.Blocks.{HaveSameHeads}
use Rattle.calendar.proofs.blocks.reach_block.Given as goal

abbrev pub invariant-reached : goal.invariant-reached
invariant-reached l = HaveSameHeads l.initial.blocks.items l.blocks.items

abbrev pub decreases-reached : goal.decreases-reached
decreases-reached l = l.block + 1 - length l.blocks.items
