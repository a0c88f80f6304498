use Rattle.qsim_top.proofs.Alike.{files_read}
use Rattle.qsim_top.proofs.reading.files_of.Goals as goal

pub returns-in-None-clause-files : goal.returns-in-None-clause-files
returns-in-None-clause-files g c =
    files_read c.read_files.result c.args.command.now (g.I.Inputs.left c.args.inputs.now) c.in-None.ensures c.read_files.ensures.files
