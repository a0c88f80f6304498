use Rattle.law_matches_plans.proofs.Days.{has_some_day}
use Rattle.law_matches_plans.proofs.trips.few_events.Goals as goal

pub returns : goal.returns
returns c = λ S i p lt. (has_some_day S i p lt).1
