use Rattle.std.{proofs.Common.arith}
use Rattle.calendar.proofs.InBlocks.{changed_head, placed_block, placed_row}
use Rattle.calendar.proofs.blocks.put_head.Goals as goal

pub index_mut-requires : goal.index_mut-requires
index_mut-requires c = let lt = placed_block c.args.blocks.now.items c.args.second c.requires.row in omega arith

pub put_in-requires : goal.put_in-requires
put_in-requires c = placed_row c.args.blocks.now.items c.args.second c.index_mut.result.now c.requires.row c.index_mut.ensures.value

pub returns : goal.returns
returns c =
    rw (← c.some.ensures)
    (changed_head c.args.blocks.now.items c.args.second c.some.result c.index_mut.result.now c.put_in.new.rows
    (placed_block c.args.blocks.now.items c.args.second c.requires.row) c.index_mut.ensures.value c.put_in.ensures.head)
