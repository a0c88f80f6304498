use Rattle.traffic.proofs.Sublists.{at-done, holes-done, credit-done, person-done}
use Rattle.traffic.proofs.laws.moves_are_local.Goals as goal

pub returns : goal.returns
returns c = assumption (at-done, holes-done, credit-done, person-done)
