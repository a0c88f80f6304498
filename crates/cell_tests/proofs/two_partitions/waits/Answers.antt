use Rattle.cell_tests.proofs.Listing.{members_set}
use Rattle.cell_tests.proofs.two_partitions.waits.Goals as goal

pub returns : goal.returns
returns c = members_set c.args.board.now c.args.members.now c.args.k c.sees.new.member c.requires.members c.if-k-members.false c.sees.ensures
