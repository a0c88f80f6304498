use Rattle.law_own_worlds.proofs.{Fitting.unheard_fit, Knowing.unheard_known, Making.made}
use Rattle.law_own_worlds.proofs.parts_have_own_worlds.Goals as goal

pub returns : goal.returns
returns c = assumption (made, unheard_known, unheard_fit)
