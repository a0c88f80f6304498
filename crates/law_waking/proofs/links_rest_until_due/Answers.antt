use Rattle.law_waking.proofs.Resting.{settled_rests}
use Rattle.law_waking.proofs.links_rest_until_due.Goals as goal

pub returns : goal.returns
returns c = settled_rests
