use Rattle.std.proofs.Common.{arith}
use Rattle.law_generated.proofs.Given.{plans_valid}
use Rattle.law_generated.proofs.plans_are_valid.Goals as goal

pub returns : goal.returns
returns c = λ size seed last is. plans_valid size (omega (arith, is.least)) (omega (arith, is.most)) seed
