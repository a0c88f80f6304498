use Rattle.traffic.proofs.Idle.{link_idle, node_idle, landing_idle, leaving_idle, departure_idle}
use Rattle.traffic.proofs.laws.idle_turns_move_nothing.Goals as goal

pub returns : goal.returns
returns c = assumption (link_idle, node_idle, landing_idle, leaving_idle, departure_idle)
