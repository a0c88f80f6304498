use Rattle.law_partitions.proofs.Setting.{advance_so}
use Rattle.law_steps.proofs.Orders.{kept}
use Rattle.law_steps.proofs.orders_make_the_day.Goals as goal

pub returns : goal.returns
returns c = λ S own parts end ps d sound consistent shares h. kept S own parts end ps d (advance_so S sound consistent own parts shares) h
