use Rattle.std.proofs.Common.{arith, rules}
use Rattle.queue_link.proofs.Dues.{held_is}
use Rattle.queue_link.proofs.sleeps.held_due.Goals as goal

pub returns : goal.returns
returns c =
    let e = rw (c.saturating_sub-lacking.ensures, c.units.ensures) at c.div_ceil.ensures in
    held_is c.args.numbers.now.room c.args.buffered c.args.numbers.now.gain c.args.second c.args.credit.now c.div_ceil.result (omega arith)
    (search rules) e
