use Rattle.std.proofs.Common.{◌-◌, ◌^◌, ◌≤◌, arith}
use Rattle.plan_memory.proofs.Weights.{small_power}
use Rattle.plan_memory.proofs.choices.logit_weight.Goals as goal

pub returns-in-Some-clause-small : goal.returns-in-Some-clause-small
returns-in-Some-clause-small c =
    let small : 2 ^ (30 - c.halvings.result) ≤ 1073741824 = small_power (30 - c.halvings.result) (omega arith) in
    omega arith
