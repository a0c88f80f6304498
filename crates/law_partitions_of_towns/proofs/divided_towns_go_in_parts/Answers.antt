use Rattle.law_partitions_of_towns.proofs.Towns.{divided_town_goes, divided_town_merges}
use Rattle.law_partitions_of_towns.proofs.divided_towns_go_in_parts.Goals as goal

pub returns : goal.returns
returns c = assumption (divided_town_goes, divided_town_merges)
