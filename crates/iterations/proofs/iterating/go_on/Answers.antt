use Rattle.iterations.proofs.Outside.{none_done}
use Rattle.iterations.proofs.iterating.go_on.Goals as goal

pub returns-in-Err-clause-performed : goal.returns-in-Err-clause-performed
returns-in-Err-clause-performed g c = none_done _ _
