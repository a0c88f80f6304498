use Rattle.scoring.proofs.LawLemmas.{value-line, on_line-down, on_line-near}
use Rattle.scoring.proofs.laws.values_round_down.Goals as goal

pub returns : goal.returns
returns c = assumption (value-line, on_line-down, on_line-near)
