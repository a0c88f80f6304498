use Rattle.std.proofs.Common.{◌-◌, length}
use Rattle.calendar.specs.{Blocks.HaveSameHeadsIn, declared.TheConstants.BLOCK_SECONDS}
use Rattle.calendar.proofs.blocks.fill_up.Given as goal

abbrev pub invariant-rows : goal.invariant-rows
invariant-rows l = HaveSameHeadsIn l.initial.rows.items l.rows.items

abbrev pub decreases-rows : goal.decreases-rows
decreases-rows l = BLOCK_SECONDS - length l.rows.items
