use Rattle.scoring.proofs.LawLemmas.{score-filter, InTurn-front}
use Rattle.scoring.proofs.laws.other_events_do_not_score.Goals as goal

pub returns : goal.returns
returns c = assumption (score-filter, InTurn-front)
