use Rattle.law_partitions.proofs.Setting.{are_local}
use Rattle.law_partitions.proofs.seconds_are_local.Goals as goal

pub returns : goal.returns
returns c = λ S own parts sound consistent shares. are_local S sound consistent own parts shares
