use Rattle.law_parts_of_days.proofs.Awaited.{none_begins}
use Rattle.law_parts_of_days.proofs.nodes_are_woken_for_places.Goals as goal

pub returns : goal.returns
returns c = none_begins
