use Rattle.traffic.proofs.ComeInTurn.{turn-same, turn-order}
use Rattle.traffic.proofs.laws.waiters_come_in_turn.Goals as goal

pub returns : goal.returns
returns c = assumption (turn-same, turn-order)
