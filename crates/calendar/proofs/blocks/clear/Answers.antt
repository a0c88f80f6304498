use Rattle.std.{proofs.Common.arith, specs.Prelude.None}
use Rattle.calendar.proofs.InBlocks.{changed_head}
use Rattle.calendar.proofs.blocks.clear.Goals as goal

pub returns-then-block-len : goal.returns-then-block-len
returns-then-block-len c =
    changed_head c.args.blocks.now.items c.args.second None c.index_mut.result.now c.clear_in.new.rows (omega arith) c.index_mut.ensures.value
    c.clear_in.ensures
