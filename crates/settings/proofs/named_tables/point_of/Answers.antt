use Rattle.std.proofs.Common.{sym}
use Rattle.settings.proofs.Alls.{no_point}
use Rattle.settings.proofs.named_tables.point_of.Goals as goal

pub returns-then-items-ne2 : goal.returns-then-items-ne2
returns-then-items-ne2 c = sym (no_point c.args.items.now c.if-items-ne2.true)
