use Rattle.std.proofs.Common.{refl, false}
use Rattle.command_line.proofs.Answered.{taken, told_so, work_is}
use Rattle.command_line.specs.{Cases.Work, declared.commands.CommandName.TheVariants.Check}
use Rattle.command_line.specs.declared.commands.Command.TheVariants as command
use Rattle.command_line.proofs.reading.read_check.Goals as goal

pub returns-in-Ok-clause-case : goal.returns-in-Ok-clause-case
returns-in-Ok-clause-case c =
    let spread = c.undivided.result in
    taken Check _ _ c.check_command-parser.ensures (Work command.Check spread.partitions spread.workers false)
    (work_is _ _ _ _ _ _ false false refl c.undivided.ensures.partitions c.undivided.ensures.workers refl) c.in-Ok.ensures.kinds

pub returns-clause-case : goal.returns-clause-case
returns-clause-case c =
    told_so Check _ _ c.check_command-parser.ensures c.in-Err.error c.told.result c.in-Err.ensures.kinds c.told.ensures.case
