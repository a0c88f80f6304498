use Rattle.std.proofs.Common.{arith}
use Rattle.cell_tests.proofs.Listing.{trial_on}
use Rattle.cell_tests.proofs.two_partitions.two.Goals as goal

pub closes-requires : goal.closes-requires
closes-requires c = trial_on c.in-Ok.trial c.act_all-are_right.new.members c.in-Ok.ensures (omega arith) c.act_all-are_right.ensures
