use Rattle.law_sleeping.proofs.Settling.{turn_settles, settled_sleeps}
use Rattle.law_sleeping.proofs.links.links_settle.Goals as goal

pub returns : goal.returns
returns c = assumption (turn_settles, settled_sleeps)
