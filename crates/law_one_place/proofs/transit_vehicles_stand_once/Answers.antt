use Rattle.law_one_place.proofs.Vehicles.{transit_once}
use Rattle.law_one_place.proofs.transit_vehicles_stand_once.Goals as goal

pub returns : goal.returns
returns c = transit_once
