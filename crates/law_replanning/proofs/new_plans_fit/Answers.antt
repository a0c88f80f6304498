use Rattle.std.proofs.Common.{◌∙◌}
use Rattle.law_replanning.proofs.{Mutated.mutated_fits, Mutated.mutated_in, Rerouted.rerouted_fits, Rerouted.rerouted_in}
use Rattle.law_replanning.proofs.new_plans_fit.Goals as goal

pub returns-clause-rerouted : goal.returns-clause-rerouted
returns-clause-rerouted c T arrive plan fifo inside fit = rerouted_fits T arrive fifo inside plan fit

pub returns-clause-mutated : goal.returns-clause-mutated
returns-clause-mutated c T range end words plan fit = mutated_fits T range end words plan ∙ fit

pub returns-clause-rerouted_in : goal.returns-clause-rerouted_in
returns-clause-rerouted_in c T arrive plan fifo inside own = rerouted_in T arrive fifo inside plan own

pub returns-clause-mutated_in : goal.returns-clause-mutated_in
returns-clause-mutated_in c T range end words plan within own = mutated_in T range end words within plan own
