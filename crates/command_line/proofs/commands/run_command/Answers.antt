use Rattle.std.proofs.Common.{codes}
use Rattle.clap.specs.Words.{new_app}
use Rattle.command_line.proofs.Arguments.{execution_app, execution_found}
use Rattle.command_line.proofs.commands.run_command.Goals as goal

pub returns-clause-app : goal.returns-clause-app
returns-clause-app c = execution_app _ _ c.in_ok-command.ensures (new_app (codes "run")) c.described-bare.ensures.app

pub returns-clause-execution : goal.returns-clause-execution
returns-clause-execution c = λ m parsed. execution_found _ _ c.in_ok-command.ensures c.described-bare.ensures.bare m parsed
