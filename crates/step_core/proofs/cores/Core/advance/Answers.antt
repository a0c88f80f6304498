use Rattle.std.proofs.Common.{length, ap, arith}
use Rattle.step_core.proofs.Stepping.{next_ready, next_done, next_stopped}
use Rattle.step_core.proofs.cores.Core.advance.Goals as goal

pub do_second-requires-clause-ready : goal.do_second-requires-clause-ready
do_second-requires-clause-ready g c = next_ready {s = c.second_of-second.result} {list = c.borders_of-borders.result.now}
    (record { core = c.requires.core; there = c.requires.may.is_part; goes = c.requires.goes; listed = cc; second = cc })
    c.requires.may c.deref_mut.result.now c.deref_mut.ensures.value

pub returns-in-Ok-clause-core : goal.returns-in-Ok-clause-core
returns-in-Ok-clause-core g c = next_done {s = c.second_of-second.result} {list = c.borders_of-borders.result.now}
    (record { core = c.requires.core; there = c.requires.may.is_part; goes = c.requires.goes; listed = cc; second = cc })
    c.requires.may c.args.self.now.wheels.len c.deref_mut.result.now c.do_second.new.wheels c.do_second.new.part c.deref_mut.ensures.value
    (omega (arith, c.deref_mut.ensures.len, ap length c.deref_mut.ensures.value)) c.in-Ok.ensures.at c.in-Ok.ensures.exchanged

pub returns-in-Err-clause-core : goal.returns-in-Err-clause-core
returns-in-Err-clause-core g c = next_stopped {s = c.second_of-second.result} {list = c.borders_of-borders.result.now}
    (record { core = c.requires.core; there = c.requires.may.is_part; goes = c.requires.goes; listed = cc; second = cc })
    c.requires.may c.args.self.now.wheels.len c.deref_mut.result.now c.do_second.new.wheels c.do_second.new.part c.deref_mut.ensures.value
    (omega (arith, c.deref_mut.ensures.len, ap length c.deref_mut.ensures.value)) c.in-Err.ensures.taken c.in-Err.ensures.spent
