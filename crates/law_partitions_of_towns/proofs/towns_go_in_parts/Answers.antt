use Rattle.law_partitions_of_towns.proofs.Towns.{rows_go, town_goes}
use Rattle.law_partitions_of_towns.proofs.towns_go_in_parts.Goals as goal

pub returns : goal.returns
returns c = assumption (rows_go, town_goes)
