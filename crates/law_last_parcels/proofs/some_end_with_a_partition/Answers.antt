use Rattle.law_last_parcels.proofs.Ending.{ends_so}
use Rattle.law_last_parcels.proofs.some_end_with_a_partition.Goals as goal

pub returns : goal.returns
returns c = ends_so
