use Rattle.std.proofs.Common.{arith, ◌+◌, length-take}
use Rattle.edge_files.proofs.Read.{takes_more}
use Rattle.edge_files.proofs.reading.read_whole.Goals as goal

pub returns-then-len-count-clause-taken : goal.returns-then-len-count-clause-taken
returns-then-len-count-clause-taken g c =
    takes_more _ _ _ _ _ _ _ c.loop.invariant.took c.in-Ok.ensures.bytes.0 (omega (arith, c.in-Ok.ensures.bound.0, c.read.auto.into, length-take (c.min.result + 1) c.loop.block, c.min.ensures, c.len.ensures, c.loop.bytes.ok, c.loop.invariant.short))

pub returns-then-is_err-clause-taken : goal.returns-then-is_err-clause-taken
returns-then-is_err-clause-taken g c =
    takes_more _ _ _ _ _ _ _ c.loop.invariant.took c.in-Ok.ensures.bytes.0 (grind (arith, c.in-Ok.ensures.bound, c.if-len-count.false))
