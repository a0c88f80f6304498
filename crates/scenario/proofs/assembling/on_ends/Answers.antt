use Rattle.router.proofs.Graphs.{network_within}
use Rattle.scenario.proofs.{Common.length, Common.texts_of, Common.network_view, Common.values_of, Composed.ends_count, Composed.read_told, Composed.read_sound}
use Rattle.scenario.{proofs.Composed.all_told, specs.FilesToScenario.read_view}
use Rattle.scenario.proofs.assembling.on_ends.Goals as goal

pub read_over-requires : goal.read_over-requires
read_over-requires g c = ends_count c.args.ends.now c.args.network.links c.args.network.link_names c.requires.ends c.args.network.each_link

pub returns-in-Err : goal.returns-in-Err
returns-in-Err g c = read_told c.in-Err.error (network_view c.args.network) (texts_of c.args.files.now) c.args.ends.now c.requires.ends c.in-Err.ensures.read

pub planned_or_fault-requires-clause-read : goal.planned_or_fault-requires-clause-read
planned_or_fault-requires-clause-read g c κs within =
    read_sound (network_view c.args.network) c.args.ends.now (read_view c.in-Ok.read) c.requires.ends c.args.network.each_link c.in-Ok.ensures.fitting

pub returns-in-Ok : goal.returns-in-Ok
returns-in-Ok g c =
    let network = c.args.network in
    all_told c.planned_or_fault.result (values_of c.args.settings) (network_view network) (read_view c.in-Ok.read) (texts_of c.args.files.now) c.args.ends.now
    (network_within (length network.nodes) network.links network.sound) network.each_link c.requires.ends c.in-Ok.ensures.read.0 c.in-Ok.ensures.read.1
    c.planned_or_fault.ensures
