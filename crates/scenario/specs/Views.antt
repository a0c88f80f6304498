-- The values of the code as the definitions see them.
use Rattle.std.specs.Prelude.{get_or, None}
use Rattle.edge_files.specs.Files.{in_place}
use Rattle.rows.specs.{PlanRows.all_plan_rows, declared.network.Network.Network}
use Rattle.scoring.specs.Tables.{scoring_rows}
use Rattle.town.specs.Views.{rows_of}
use Rattle.scenario.specs.FilesToScenario.{NetworkRows, PlannedRows, ScenarioRows}
use Rattle.scenario.specs.{Texts.Texts, declared.files.Files.Files, declared.planned.PlannedTown.PlannedTown, declared.scenario.Scenario.Scenario}

-- what was read of each file
abbrev pub texts_of : Files → Texts
texts_of files file = get_or files.texts (in_place file) None

-- the network
abbrev pub network_view : Network → NetworkRows
network_view network = record { node_names = network.node_names; nodes = network.nodes; link_names = network.link_names; links = network.links }

-- the town with its plans
abbrev pub planned_view : PlannedTown → PlannedRows
planned_view planned = record { town = rows_of planned.town; node_names = planned.town.network.node_names; plans = all_plan_rows planned.plans }

-- the scenario
abbrev pub scenario_view : Scenario → ScenarioRows
scenario_view scenario = record {
  town = rows_of scenario.town;
  node_names = scenario.town.network.node_names;
  memories = scenario.memories;
  scoring = scoring_rows scenario.tables;
  learning = scenario.learning;
  last_iteration = scenario.last_iteration;
}
