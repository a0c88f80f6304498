use Rattle.law_parts_of_days.proofs.Awaited.{nobody_waits}
use Rattle.law_parts_of_days.proofs.nodes_are_woken_for_vehicles.Goals as goal

pub returns : goal.returns
returns c = nobody_waits
