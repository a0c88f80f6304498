use Rattle.law_journeys.proofs.Buses.{buses_wait}
use Rattle.law_journeys.proofs.buses_wait_at_stops.Goals as goal

pub returns : goal.returns
returns c = buses_wait
