use Rattle.plain_day.proofs.Numbers.{gain_is}
use Rattle.plain_day.proofs.links.gain_of.Goals as goal

pub returns-clause-value : goal.returns-clause-value
returns-clause-value c = gain_is c.args.day.now c.args.link c.link_row-row.result c.credit_per_second.result c.link_row-row.ensures.row c.credit_per_second.ensures.value
