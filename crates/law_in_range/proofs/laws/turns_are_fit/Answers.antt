use Rattle.law_in_range.proofs.Seconds.{turn_fit, phase_moves}
use Rattle.law_in_range.proofs.laws.turns_are_fit.Goals as goal

pub returns : goal.returns
returns c = assumption (turn_fit, phase_moves)
