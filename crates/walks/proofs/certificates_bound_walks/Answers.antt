use Rattle.walks.proofs.Least.{bounds_walks}
use Rattle.walks.proofs.certificates_bound_walks.Goals as goal

pub returns : goal.returns
returns c nodes ends arrive from second labels fifo certificate links to walk =
    bounds_walks ends arrive fifo from second labels certificate.start certificate.kept to links walk
