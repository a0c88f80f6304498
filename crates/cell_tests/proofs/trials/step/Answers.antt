use Rattle.cell_tests.proofs.Listing.{members_set}
use Rattle.cell_tests.proofs.trials.step.Goals as goal

pub returns : goal.returns
returns c = members_set c.args.board.now c.args.members.now c.args.k c.second.new.member c.requires.members c.if-k-members.false
    c.second.ensures.member
