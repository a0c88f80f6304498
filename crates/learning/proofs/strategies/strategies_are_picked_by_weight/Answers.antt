use Rattle.learning.proofs.Picking.{no_new_plans, all_keep}
use Rattle.learning.proofs.strategies.strategies_are_picked_by_weight.Goals as goal

pub returns-clause-no_reroute : goal.returns-clause-no_reroute
returns-clause-no_reroute c learning iteration word after = (no_new_plans learning iteration word after).0

pub returns-clause-no_mutation : goal.returns-clause-no_mutation
returns-clause-no_mutation c learning iteration word after = (no_new_plans learning iteration word after).1

pub returns-clause-kept : goal.returns-clause-kept
returns-clause-kept c = all_keep
