use Rattle.std.proofs.Common.{refl}
use Rattle.plan_memory.specs.{Choices.logit_weights, Scores.is_lowest, Scores.is_highest, Scores.worst, Scores.best}
use Rattle.plan_memory.proofs.laws.worked_scores.Goals as goal

pub returns-clause-first : goal.returns-clause-first
unfolding is_lowest is_highest worst best logit_weights
returns-clause-first c = refl

pub returns-clause-highest : goal.returns-clause-highest
unfolding is_lowest is_highest worst best logit_weights
returns-clause-highest c = refl

pub returns-clause-untried_worst : goal.returns-clause-untried_worst
unfolding is_lowest is_highest worst best logit_weights
returns-clause-untried_worst c = refl

pub returns-clause-untried_best : goal.returns-clause-untried_best
unfolding is_lowest is_highest worst best logit_weights
returns-clause-untried_best c = refl

pub returns-clause-weights : goal.returns-clause-weights
unfolding is_lowest is_highest worst best logit_weights
returns-clause-weights c = refl

pub returns-clause-least_weight : goal.returns-clause-least_weight
unfolding is_lowest is_highest worst best logit_weights
returns-clause-least_weight c = refl
