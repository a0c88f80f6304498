use Rattle.std.proofs.Common.{◌≡◌, take}
use Rattle.plan_memory.proofs.memory.kept_scores.Given as goal

abbrev pub invariant-loop-score : goal.invariant-loop-score
invariant-loop-score l = l.kept.items ≡ take l.score-index l.scores
