use Rattle.std.proofs.Common.{arith}
use Rattle.cell_tests.proofs.Listing.{trial_on}
use Rattle.cell_tests.proofs.trials.runs.Goals as goal

pub closes-requires : goal.closes-requires
closes-requires g c = trial_on c.in-Ok.trial c.spread.new.members c.in-Ok.ensures (omega arith) c.spread.ensures
