use Rattle.law_sleeping.proofs.Passing.{lazily}
use Rattle.law_sleeping.proofs.Reading.{now_has, before_has, node_lazily, node_reads, node_view_weighted, green_lazily}
use Rattle.law_sleeping.proofs.nodes.few_words_are_read.Goals as goal

pub returns-clause-now : goal.returns-clause-now
returns-clause-now c = now_has

pub returns-clause-before : goal.returns-clause-before
returns-clause-before c = before_has

pub returns-clause-lazily : goal.returns-clause-lazily
returns-clause-lazily c = λ K t word p left j es out_links small a w n. lazily K t word small p left j es out_links a w n

pub returns-clause-moves : goal.returns-clause-moves
returns-clause-moves c = λ K t word p see. node_lazily p K t word see

pub returns-clause-reads : goal.returns-clause-reads
returns-clause-reads c = λ K t word other p see. node_reads p K t word other see

pub returns-clause-weights : goal.returns-clause-weights
returns-clause-weights c = node_view_weighted

pub returns-clause-green : goal.returns-clause-green
returns-clause-green c = green_lazily
