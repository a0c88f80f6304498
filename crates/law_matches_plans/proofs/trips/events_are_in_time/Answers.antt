use Rattle.law_matches_plans.proofs.InTime.{day_until}
use Rattle.law_matches_plans.proofs.trips.events_are_in_time.Goals as goal

pub returns : goal.returns
returns c = day_until
