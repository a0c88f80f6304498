use Rattle.std.proofs.Common.{rules, arith}
use Rattle.cells.proofs.Allowed.{reads}
use Rattle.cells.proofs.looking.read_at.Goals as goal

pub load-requires : goal.load-requires
load-requires g c = let b = c.args.board.now in let ok = c.requires.border in (
  search rules,
  (let w = b.words_are in let n = b.sound.from_in c.args.border.inward ok.inside in let s = ok.sender in omega arith),
  reads g.T.Exchange.right b.table.shared.key b.channels.items b.channels_are _ _ c.args.seat.now.me
      c.args.border _ c.requires.known c.requires.role ok,
)
