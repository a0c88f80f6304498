use Rattle.std.proofs.Common.{◌∙◌}
use Rattle.events.proofs.NameSets.{number_texts}
use Rattle.events.proofs.names.Names.find.Goals as goal

pub returns-in-Some : goal.returns-in-Some
returns-in-Some c = rw (← c.self.view_is) (c.in-Some.ensures.index ∙ number_texts c.args.bytes.now c.self.inside.set.keys)

pub returns-in-None : goal.returns-in-None
returns-in-None c = rw (← c.self.view_is) (c.in-None.ensures.index ∙ number_texts c.args.bytes.now c.self.inside.set.keys)
