use Rattle.settings.specs.Faults.{file_values}
use Rattle.scenario.proofs.Composed.{scenario_told}
use Rattle.scenario.specs.{FilesToScenario.on_network, FilesToScenario.on_network_fault, Views.network_view, Views.texts_of}
use Rattle.scenario.proofs.assembling.scenario_on.Goals as goal

pub returns-in-Ok-scenario_of : goal.returns-in-Ok-scenario_of
returns-in-Ok-scenario_of g c =
    let T = texts_of c.args.files.now in
    let R = network_view c.args.network in
    let said = file_values c.args.file in
    scenario_told c.in-Ok.planned c.in-Ok-scenario_of.scenario (on_network_fault R T) (on_network said.day R T) said c.in-Ok.ensures c.in-Ok-scenario_of.ensures
