use Rattle.law_journeys.proofs.Activities.{end_as_planned}
use Rattle.law_journeys.proofs.activities_end_as_planned.Goals as goal

pub returns : goal.returns
returns c = end_as_planned
