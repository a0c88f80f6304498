use Rattle.std.proofs.Common.{◌∙◌, sym}
use Rattle.clap.specs.Words.{found_of, rows_of}
use Rattle.command_line.{proofs.Answered.taken, proofs.Answered.told_so, proofs.Answered.made, specs.Cases.asked_case}
use Rattle.command_line.proofs.reading.read_simulation.Goals as goal

pub returns-in-Ok-clause-case : goal.returns-in-Ok-clause-case
returns-in-Ok-clause-case c =
    let work = asked_case c.simulation_asked.result in
    taken c.args.name _ _ c.requires.app work
    (made c.args.name _ _ c.requires.app work c.in-Ok.matches c.in-Ok.ensures.matches
    (c.simulation_asked.ensures.case ∙ sym (c.requires.work (rows_of (found_of c.in-Ok.matches)))))
    c.in-Ok.ensures.kinds

pub returns-in-Err-clause-case : goal.returns-in-Err-clause-case
returns-in-Err-clause-case c =
    told_so c.args.name _ _ c.requires.app c.in-Err.error c.told.result c.in-Err.ensures.kinds c.told.ensures.case

pub simulation_asked-requires : goal.simulation_asked-requires
simulation_asked-requires c = c.requires.execution c.in-Ok.matches c.in-Ok.ensures.parsed
