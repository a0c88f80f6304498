use Rattle.law_in_range.proofs.Days.{start_is_fit}
use Rattle.plain_day.proofs.days.fit_start.Goals as goal

pub returns-clause-fit : goal.returns-clause-fit
returns-clause-fit c = start_is_fit c.args.day.now c.in_ok-world.world c.requires c.in_ok-world.ensures
