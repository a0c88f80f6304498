use Rattle.traffic.proofs.Phases.{phase_at_once}
use Rattle.traffic.proofs.laws.phases_are_at_once.Goals as goal

pub returns : goal.returns
returns c = phase_at_once
