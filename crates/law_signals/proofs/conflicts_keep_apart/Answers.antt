use Rattle.law_signals.proofs.Days.{never_together}
use Rattle.law_signals.proofs.conflicts_keep_apart.Goals as goal

pub returns : goal.returns
returns c = never_together
