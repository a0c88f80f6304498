use Rattle.std.proofs.Common.{refl}
use Rattle.fixed_flow.specs.Link.{free_seconds}
use Rattle.travel_times.specs.Observed.{observed}
use Rattle.travel_times.proofs.laws.worked_observations.Goals as goal

pub returns-clause-two_cars : goal.returns-clause-two_cars
unfolding observed free_seconds
returns-clause-two_cars c = refl

pub returns-clause-average : goal.returns-clause-average
unfolding observed free_seconds
returns-clause-average c = refl

pub returns-clause-no_car : goal.returns-clause-no_car
unfolding observed free_seconds
returns-clause-no_car c = refl
