use Rattle.law_partitions.proofs.Setting.{has_neighbours}
use Rattle.law_steps.proofs.Orders.{net_is}
use Rattle.law_steps.proofs.days_are_nets.Goals as goal

pub returns : goal.returns
returns c = λ S own parts end sound consistent shares few short. net_is S own parts end (has_neighbours S sound consistent own parts shares) few short
