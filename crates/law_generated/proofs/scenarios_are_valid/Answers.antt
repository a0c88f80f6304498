use Rattle.std.proofs.Common.{arith}
use Rattle.law_generated.proofs.Whole.{scenario_valid}
use Rattle.law_generated.proofs.scenarios_are_valid.Goals as goal

pub returns : goal.returns
returns c = λ size seed last is fits. scenario_valid size (omega (arith, is.least)) (omega (arith, is.most)) seed last fits is.last
