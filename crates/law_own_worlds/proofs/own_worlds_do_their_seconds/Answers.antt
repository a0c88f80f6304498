use Rattle.law_own_worlds.proofs.{Seconds.second_of, Staying.stays_fit}
use Rattle.law_own_worlds.proofs.own_worlds_do_their_seconds.Goals as goal

pub returns : goal.returns
returns c = assumption (second_of, stays_fit)
