use Rattle.law_partitions_of_towns.proofs.Towns.{town_follows, town_stands, town_world_fit}
use Rattle.law_partitions_of_towns.proofs.divided_towns_have_own_worlds.Goals as goal

pub returns : goal.returns
returns c = assumption (town_follows, town_stands, town_world_fit)
