use Rattle.law_one_place.proofs.Turns.{start_kept, second_kept, always_kept}
use Rattle.law_one_place.proofs.days_keep_one_place.Goals as goal

pub returns : goal.returns
returns c = assumption (start_kept, second_kept, always_kept)
