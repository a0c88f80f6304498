use Rattle.std.proofs.{Common.false, Common.◌≡◌, lemmas.List.Elements.recursion_from_All}
use Rattle.law_sleeping.{proofs.Passing.pass_node_all_none, proofs.Passing.pass_node_some, proofs.Passing.node_rest, specs.Able.is_able}
use Rattle.law_sleeping.proofs.nodes.nodes_rest.Goals as goal

pub returns-clause-none : goal.returns-clause-none
returns-clause-none c = pass_node_all_none

pub returns-clause-some : goal.returns-clause-some
returns-clause-some c = λ K t out_links e. pass_node_some K t e.link out_links e.rows

pub returns-clause-idle : goal.returns-clause-idle
returns-clause-idle c = λ K t word see h. node_rest K t word see (recursion_from_All (λ e. is_able K t see.out_links e
    ≡ false) see.in_links h)
