use Rattle.law_matches_plans.proofs.Sound.{sound_planned}
use Rattle.law_matches_plans.proofs.trips.sound_plans_are_planned.Goals as goal

pub returns : goal.returns
returns c = sound_planned
