use Rattle.law_in_range.proofs.Seconds.{through_fit, start_fit, from_fit}
use Rattle.law_in_range.proofs.laws.days_stay_fit.Goals as goal

pub returns : goal.returns
returns c = search (start_fit, through_fit, from_fit)
