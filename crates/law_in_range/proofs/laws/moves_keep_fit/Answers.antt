use Rattle.law_in_range.proofs.Kept.{run_fit}
use Rattle.law_in_range.proofs.laws.moves_keep_fit.Goals as goal

pub returns : goal.returns
returns c = run_fit
