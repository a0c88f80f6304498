use Rattle.law_sleeping.proofs.Resting.{link_rest}
use Rattle.law_sleeping.proofs.links.links_rest.Goals as goal

pub returns : goal.returns
returns c = link_rest
