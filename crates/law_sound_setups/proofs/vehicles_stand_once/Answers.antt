use Rattle.law_sound_setups.proofs.Vehicles.{vehicle_once}
use Rattle.law_sound_setups.proofs.vehicles_stand_once.Goals as goal

pub returns : goal.returns
returns c = vehicle_once
