use Rattle.std.proofs.Common.{◌∙◌, ap}
use Rattle.clap.specs.Words.{found_of, rows_of}
use Rattle.command_line.proofs.Answered.{taken, told_so, made}
use Rattle.command_line.specs.{Cases.asked_case, Cases.simulation, declared.commands.CommandName.TheVariants.Generate}
use Rattle.command_line.proofs.reading.read_generate.Goals as goal

pub returns-in-Ok-clause-case : goal.returns-in-Ok-clause-case
returns-in-Ok-clause-case c =
    let work = asked_case c.simulation_asked.result in
    taken Generate _ _ c.in_ok-parser.ensures.app work
    (made Generate _ _ c.in_ok-parser.ensures.app work c.in-Ok.matches c.in-Ok.ensures.matches
    (c.simulation_asked.ensures.case ∙ ap (λ command. simulation command (rows_of (found_of c.in-Ok.matches))) c.grid_asked-command.ensures.command))
    c.in-Ok.ensures.kinds

pub returns-in-Err-clause-case : goal.returns-in-Err-clause-case
returns-in-Err-clause-case c =
    told_so Generate _ _ c.in_ok-parser.ensures.app c.in-Err.error c.told.result c.in-Err.ensures.kinds c.told.ensures.case

pub grid_asked-command-requires : goal.grid_asked-command-requires
grid_asked-command-requires c = (c.in_ok-parser.ensures.numbers c.in-Ok.matches c.in-Ok.ensures.parsed).0

pub simulation_asked-requires : goal.simulation_asked-requires
simulation_asked-requires c = (c.in_ok-parser.ensures.numbers c.in-Ok.matches c.in-Ok.ensures.parsed).1
