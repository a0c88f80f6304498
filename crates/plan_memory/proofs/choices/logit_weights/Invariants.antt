use Rattle.std.proofs.Common.{◌≡◌, ◌≤◌, ◌*◌, ◌^◌, map, take, sum}
use Rattle.plan_memory.specs.Choices.{logit_weight}
use Rattle.plan_memory.proofs.choices.logit_weights.Given as goal

abbrev pub invariant-loop-score : goal.invariant-loop-score
invariant-loop-score l = (l.weights.items ≡ map (logit_weight l.unit l.most) (take l.score-index l.scores))
    × (sum l.weights.items ≤ 2 ^ 30 * l.score-index) × (l.score-index ≤ sum l.weights.items)
