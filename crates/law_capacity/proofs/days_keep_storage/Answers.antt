use Rattle.law_capacity.proofs.Queues.{start_storage, second_storage, day_storage}
use Rattle.law_capacity.proofs.days_keep_storage.Goals as goal

pub returns : goal.returns
returns c = assumption (start_storage, second_storage, day_storage)
