use Rattle.law_matches_plans.proofs.Towns.{rows_planned, rows_told, town_told}
use Rattle.law_matches_plans.proofs.towns_are_told_as_planned.Goals as goal

pub returns : goal.returns
returns c = assumption (rows_planned, rows_told, town_told)
