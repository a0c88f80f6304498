use Rattle.iterations.proofs.Outside.{none_done}
use Rattle.iterations.proofs.performing.write_line.Goals as goal

pub returns-in-Err-clause-performed : goal.returns-in-Err-clause-performed
returns-in-Err-clause-performed g c = none_done _ _
