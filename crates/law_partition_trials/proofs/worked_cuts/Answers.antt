use Rattle.std.proofs.Common.{refl}
use Rattle.partition.specs.Cuts.{cuts_from}
use Rattle.law_partition_trials.proofs.worked_cuts.Goals as goal

pub returns-clause-five : goal.returns-clause-five
unfolding cuts_from
returns-clause-five c = refl

pub returns-clause-seven : goal.returns-clause-seven
returns-clause-seven c = refl
