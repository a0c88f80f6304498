use Rattle.law_sleeping.proofs.Sleep.{aside_far, aside_passed, aside_removed, aside_new, phase_sleep}
use Rattle.law_sleeping.proofs.links.links_are_not_woken.Goals as goal

pub returns : goal.returns
returns c = assumption (aside_far, aside_passed, aside_removed, aside_new, phase_sleep)
