use Rattle.scenario.proofs.Common.{◌∙◌}
use Rattle.scenario.proofs.assembling.on_network.Goals as goal

pub on_ends-requires-clause-ends : goal.on_ends-requires-clause-ends
on_ends-requires-clause-ends g c κs within = c.deref.ensures.value ∙ c.in-Ok.ensures
