use Rattle.law_matches_plans.proofs.ScoredTowns.{rows_scored, plans_scored}
use Rattle.law_matches_plans.proofs.scores.towns_can_be_scored.Goals as goal

pub returns : goal.returns
returns c = assumption (rows_scored, plans_scored)
