use Rattle.settings.specs.Faults.{file_values}
use Rattle.scenario.proofs.{Composed.files_told, Told.first_stop, Told.later_stop}
use Rattle.scenario.specs.{Faults.TellsFile, FilesToScenario.scenario_fault, Views.texts_of, Views.network_view}
use Rattle.scenario.proofs.assembling.assemble.Goals as goal

pub returns-in-Err : goal.returns-in-Err
unfolding TellsFile scenario_fault
returns-in-Err g c = first_stop c.in-Err.error _ _ c.in-Err.ensures

pub returns-in-Err-read_network : goal.returns-in-Err-read_network
unfolding TellsFile scenario_fault
returns-in-Err-read_network g c = later_stop c.in-Err-read_network.error _ _ c.in-Ok.ensures.0 (first_stop c.in-Err-read_network.error _ _ c.in-Err-read_network.ensures)

pub returns-in-Ok-read_network : goal.returns-in-Ok-read_network
unfolding TellsFile
returns-in-Ok-read_network g c =
    files_told c.scenario_on.result (texts_of c.args.files.now) (file_values c.in-Ok.file) (network_view c.in-Ok-read_network.network) c.in-Ok.ensures.0 c.in-Ok-read_network.ensures.0 c.in-Ok.ensures.1 c.in-Ok-read_network.ensures.1 c.scenario_on.ensures
