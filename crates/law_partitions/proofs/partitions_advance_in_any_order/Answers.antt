use Rattle.law_partitions.proofs.Setting.{advance_so}
use Rattle.law_partitions.proofs.partitions_advance_in_any_order.Goals as goal

pub returns : goal.returns
returns c = λ S own parts sound consistent shares. advance_so S sound consistent own parts shares
