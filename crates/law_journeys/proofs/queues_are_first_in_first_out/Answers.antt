use Rattle.law_journeys.proofs.Queues.{queue_kept}
use Rattle.law_journeys.proofs.queues_are_first_in_first_out.Goals as goal

pub returns : goal.returns
returns c = queue_kept
