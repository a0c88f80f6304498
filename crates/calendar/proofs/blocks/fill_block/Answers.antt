use Rattle.std.proofs.Common.{◌/◌}
use Rattle.calendar.{proofs.InBlocks.same_heads, proofs.InBlocks.long_rows, specs.declared.TheConstants.BLOCK_SECONDS}
use Rattle.calendar.proofs.blocks.fill_block.Goals as goal

pub returns-in_err-fill_up-clause-same : goal.returns-in_err-fill_up-clause-same
returns-in_err-fill_up-clause-same c =
    same_heads c.args.blocks.now.items (c.args.second / BLOCK_SECONDS) c.index_mut.result.now c.fill_up.new.rows c.requires
    c.index_mut.ensures.value c.fill_up.ensures.same

pub returns-clause-long : goal.returns-clause-long
returns-clause-long c = long_rows c.args.blocks.now.items c.args.second c.fill_up.new.rows c.requires c.in_ok-fill_up.ensures.long

pub returns-clause-same : goal.returns-clause-same
returns-clause-same c =
    same_heads c.args.blocks.now.items (c.args.second / BLOCK_SECONDS) c.index_mut.result.now c.fill_up.new.rows c.requires
    c.index_mut.ensures.value c.fill_up.ensures.same
