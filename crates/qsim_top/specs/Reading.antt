-- What is read, or made, for a command.
use Rattle.std.specs.Prelude.{◌≡◌, true, Option, None, Some, Result, Ok, Err}
use Rattle.command_line.specs.declared.commands.Command.{Command}
use Rattle.command_line.specs.declared.commands.Command.TheVariants as command
use Rattle.workload.specs.declared.grid.Grid.{Grid}
use Rattle.scenario.specs.{Faults.StopsAt, FilesToScenario.scenario_fault, FilesToScenario.scenario_rows, Texts.Texts, Views.scenario_view}
use Rattle.scenario.specs.declared.scenario.Scenario.{Scenario}
use Rattle.qsim_top.specs.{Came.reads_files, declared.reading.NoScenario.NoScenario}
use Rattle.qsim_top.specs.declared.reading.NoScenario.TheVariants as no_scenario

-- it is the grid that the command makes; a command that makes none reads files
abbrev pub IsGridOf : Command → Option Grid → Type 0
IsGridOf c None = reads_files c ≡ true
IsGridOf c (Some grid) = c ≡ command.Generate grid.size grid.seed grid.last_iteration

-- the scenario that these files give, or their first fault; a read that failed and want of memory say nothing of them
abbrev pub IsRead : Result Scenario NoScenario → Texts → Type 0
IsRead (Ok scenario) texts = (scenario_fault texts ≡ None) × (scenario_view scenario ≡ scenario_rows texts)
IsRead (Err (no_scenario.Stopped stop)) texts = StopsAt stop (scenario_fault texts)
IsRead (Err no_scenario.ReadFailed) texts = Unit {0}
