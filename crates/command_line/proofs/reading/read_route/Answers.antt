use Rattle.std.proofs.Common.{false, refl}
use Rattle.command_line.proofs.Answered.{taken, told_so, made, work_is}
use Rattle.command_line.specs.{Cases.Work, declared.commands.CommandName.TheVariants.Route}
use Rattle.command_line.proofs.reading.read_route.Goals as goal

pub returns-in_ok-command-in-Ok-clause-case : goal.returns-in_ok-command-in-Ok-clause-case
returns-in_ok-command-in-Ok-clause-case c =
    let spread = c.undivided.result in
    let work = Work c.in_ok-command-in-Ok.command spread.partitions spread.workers false in
    taken Route _ _ c.in_ok-parser.ensures.app work
    (made Route _ _ c.in_ok-parser.ensures.app work c.in-Ok.matches c.in-Ok.ensures.matches
    (work_is _ _ _ _ _ _ false false c.in_ok-command-in-Ok.ensures.command c.undivided.ensures.partitions c.undivided.ensures.workers refl))
    c.in-Ok.ensures.kinds

pub returns-in-Err-clause-case : goal.returns-in-Err-clause-case
returns-in-Err-clause-case c =
    told_so Route _ _ c.in_ok-parser.ensures.app c.in-Err.error c.told.result c.in-Err.ensures.kinds c.told.ensures.case
