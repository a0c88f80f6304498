use Rattle.law_matches_plans.proofs.Scored.{planned_day}
use Rattle.law_matches_plans.proofs.scores.days_can_be_scored.Goals as goal

pub returns : goal.returns
returns c = planned_day
