use Rattle.std.proofs.Common.{length, refl}
use Rattle.plans.specs.Read.{file_rows_of}
use Rattle.rows.specs.Joined.{ends_of}
use Rattle.router.proofs.Graphs.{network_within}
use Rattle.scenario.{proofs.Filled.file_on, proofs.Filled.filled_sound, specs.FilesToScenario.filled_in, specs.Views.network_view}
use Rattle.scenario.proofs.assembling.filled.Goals as goal

pub with_routes-requires-clause-on : goal.with_routes-requires-clause-on
with_routes-requires-clause-on g c κs within =
    let network = c.args.network.now in
    file_on network.link_names (length network.links) (ends_of network.links) (file_rows_of c.args.file) network.each_link c.requires.sound

pub returns-in-Ok-clause-rows : goal.returns-in-Ok-clause-rows
unfolding filled_in
returns-in-Ok-clause-rows g c = rw c.in-Ok.ensures refl

pub returns-in-Ok-clause-sound : goal.returns-in-Ok-clause-sound
unfolding filled_in
returns-in-Ok-clause-sound g c =
    let network = c.args.network.now in
    let P = file_rows_of c.args.file in
    rw c.in-Ok.ensures (filled_sound (network_view network)
    (network_within (length network.nodes) network.links network.sound) P network.each_link c.requires.sound)
