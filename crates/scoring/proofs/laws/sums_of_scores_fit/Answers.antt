use Rattle.scoring.proofs.LawLemmas.{total-fits}
use Rattle.scoring.proofs.laws.sums_of_scores_fit.Goals as goal

pub returns : goal.returns
returns c = total-fits
