use Rattle.law_sleeping.proofs.Resting.{sleeps_quiet, sleeps_moves}
use Rattle.law_sleeping.proofs.Sleep.{sleeps_on, sleeps_less, asides_keep, link_state_run, credits_run}
use Rattle.law_sleeping.proofs.links.links_sleep.Goals as goal

pub returns : goal.returns
returns c = assumption (sleeps_quiet, sleeps_moves, sleeps_on, sleeps_less, asides_keep, link_state_run, credits_run)
