use Rattle.std.proofs.Common.{arith}
use Rattle.cells.proofs.Allowed.{cuts}
use Rattle.cells.proofs.hub.split_seat_at.Goals as goal

pub split_seat-requires : goal.split_seat-requires
split_seat-requires g c = let b = c.args.board.now in let lt = c.requires.below in let w = b.words_are in (
  c.requires.table,
  omega arith,
  cuts g.T.Exchange.right b.table.shared.key b.count b.count_is _ c.args.seat.now.me.0
      c.args.p _ c.requires.known c.requires.role c.requires.below c.requires.without_port,
)
