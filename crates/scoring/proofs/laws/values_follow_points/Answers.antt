use Rattle.scoring.proofs.LawLemmas.{value-exact, value-first, value-last, value-climbing}
use Rattle.scoring.proofs.laws.values_follow_points.Goals as goal

pub returns : goal.returns
returns c = assumption (value-exact, value-first, value-last, value-climbing)
