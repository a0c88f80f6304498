use Rattle.plain_day.proofs.Numbers.{rules_are}
use Rattle.plain_day.proofs.links.rules.Goals as goal

pub returns-clause-value : goal.returns-clause-value
returns-clause-value c = rules_are c.args.day.now c.args.link c.gain_of-gain.result c.buffer_room.result c.gain_of-gain.ensures.value c.buffer_room.ensures.value
