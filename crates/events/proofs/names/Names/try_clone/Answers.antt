use Rattle.std.proofs.Common.{◌∙◌}
use Rattle.events.proofs.NameSets.{texts-clone}
use Rattle.events.proofs.names.Names.try_clone.Goals as goal

pub invariant_of-result : goal.invariant_of-result
invariant_of-result c = rw (texts-clone c.self.inside.set.keys c.in_ok-set.set.keys c.in_ok-set.ensures.cases) c.self.invariant

pub returns : goal.returns
returns c = texts-clone c.self.inside.set.keys c.in_ok-set.set.keys c.in_ok-set.ensures.cases ∙ c.self.view_is
