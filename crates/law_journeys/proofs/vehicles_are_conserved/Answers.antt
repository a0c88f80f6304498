use Rattle.law_journeys.proofs.Counts.{conserved}
use Rattle.law_journeys.proofs.vehicles_are_conserved.Goals as goal

pub returns : goal.returns
returns c = conserved
