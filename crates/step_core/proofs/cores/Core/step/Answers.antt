use Rattle.std.proofs.Common.{arith}
use Rattle.step_core.proofs.Stepping.{may_next}
use Rattle.step_core.proofs.cores.Core.step.Goals as goal

pub advance-requires-clause-may : goal.advance-requires-clause-may
advance-requires-clause-may g c = may_next {s = c.second_of-second.result} {list = c.borders_of-borders.result.now}
    (record { core = c.requires.core; there = c.requires.there; goes = cc; listed = cc; second = cc })
    c.deref-4.result.now c.deref-4.ensures.value (omega (arith, c.end.ensures)) c.in-None.ensures.none
