use Rattle.law_partitions.proofs.Setting.{has_neighbours}
use Rattle.law_partitions.proofs.partitions_have_neighbours.Goals as goal

pub returns : goal.returns
returns c = λ S own parts sound consistent shares. has_neighbours S sound consistent own parts shares
