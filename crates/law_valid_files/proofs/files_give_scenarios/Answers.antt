use Rattle.law_valid_files.proofs.{Books.scenario_named, Valid.scenario_valid}
use Rattle.law_valid_files.proofs.files_give_scenarios.Goals as goal

pub returns-clause-scenario : goal.returns-clause-scenario
returns-clause-scenario c = scenario_valid

pub returns-clause-named : goal.returns-clause-named
returns-clause-named c = scenario_named
