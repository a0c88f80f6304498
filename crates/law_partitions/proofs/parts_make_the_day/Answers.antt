use Rattle.law_partitions.proofs.Setting.{make_the_day}
use Rattle.law_partitions.proofs.parts_make_the_day.Goals as goal

pub returns : goal.returns
returns c = λ S own parts sound consistent shares. make_the_day S sound consistent own parts shares
