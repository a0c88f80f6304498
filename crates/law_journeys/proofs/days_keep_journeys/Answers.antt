use Rattle.law_journeys.proofs.{Activities.end_as_planned, Buses.buses_wait, Coming.continuous, Counts.conserved, Driving.nobody_early, Fit.all_seated, Queues.queue_kept}
use Rattle.law_journeys.proofs.days_keep_journeys.Goals as goal

pub returns : goal.returns
returns c = λ S. record {
  seats = all_seated S;
  queues = queue_kept S;
  free_flow = nobody_early S;
  continuity = continuous S;
  conservation = conserved S;
  activities = end_as_planned S;
  buses = buses_wait S;
}
