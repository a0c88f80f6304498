use Rattle.law_journeys.proofs.Fit.{all_seated}
use Rattle.law_journeys.proofs.riders_have_seats.Goals as goal

pub returns : goal.returns
returns c = all_seated
