use Rattle.law_journeys.proofs.Coming.{continuous}
use Rattle.law_journeys.proofs.links_gain_over_nodes.Goals as goal

pub returns : goal.returns
returns c = continuous
