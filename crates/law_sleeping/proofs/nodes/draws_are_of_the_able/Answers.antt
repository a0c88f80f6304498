use Rattle.std.proofs.{Common.false, Common.◌≡◌, lemmas.List.Elements.recursion_from_All}
use Rattle.law_sleeping.proofs.Passing.{fuller_after, cannot_later, in_order, able_alone}
use Rattle.law_sleeping.{proofs.Reading.node_one, proofs.Reading.none_left, proofs.Reading.only_left, specs.Able.can_pass_node}
use Rattle.law_sleeping.proofs.nodes.draws_are_of_the_able.Goals as goal

pub returns-clause-fuller : goal.returns-clause-fuller
returns-clause-fuller c = fuller_after

pub returns-clause-never_later : goal.returns-clause-never_later
returns-clause-never_later c = λ K t later out_links e f h. cannot_later K t later out_links f e h

pub returns-clause-in_order : goal.returns-clause-in_order
returns-clause-in_order c = in_order

pub returns-clause-able_alone : goal.returns-clause-able_alone
returns-clause-able_alone c = able_alone

pub returns-clause-one : goal.returns-clause-one
returns-clause-one c = node_one

pub returns-clause-none_left : goal.returns-clause-none_left
returns-clause-none_left c = λ K t word left j es out_links h. none_left K t word left j es out_links
    (recursion_from_All (λ e. can_pass_node K t out_links e ≡ false) es h)

pub returns-clause-only_left : goal.returns-clause-only_left
returns-clause-only_left c = only_left
