use Rattle.std.proofs.Common.{arith}
use Rattle.cells.proofs.{Allowed.merges, Fillings.nothing_held}
use Rattle.cells.proofs.board.Hub.join.Goals as goal

pub join_seat-requires : goal.join_seat-requires
join_seat-requires g c = let b = c.args.board.now in let w = b.words_are in let lt = c.requires.port.named in (
  c.requires.hub.table,
  c.requires.port.table,
  nothing_held g.T.Exchange.right b c.args.port c.requires.port c.requires.awaited,
  omega arith,
  merges g.T.Exchange.right b.table.shared.key _ c.args.self.now.seat.me.0 _ c.args.port.seat.me.0 c.requires.hub.role c.requires.port.role,
)
