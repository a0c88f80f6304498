use Rattle.law_journeys.proofs.Driving.{nobody_early}
use Rattle.law_journeys.proofs.vehicles_take_their_time.Goals as goal

pub returns : goal.returns
returns c = nobody_early
