-- The ranges of the settings of replanning.
use Rattle.std.specs.Prelude.{◌≤◌}
use Rattle.limits.specs.declared.TheConstants.{LAST_SECOND, MAX_PLANS}
use Rattle.learning.specs.declared.TheConstants.{LAST_ITERATION, MAX_LOGIT_UNIT, MAX_WEIGHT}
use Rattle.learning.specs.declared.settings.{Learning.Learning, StrategyWeights.StrategyWeights}

-- no weight is more than 1,000,000
pub record AreWeights (w : StrategyWeights) : Type 0 where
  pub keep_last_selected : w.keep_last_selected ≤ MAX_WEIGHT
  pub best_score : w.best_score ≤ MAX_WEIGHT
  pub select_random : w.select_random ≤ MAX_WEIGHT
  pub select_logit : w.select_logit ≤ MAX_WEIGHT
  pub reroute : w.reroute ≤ MAX_WEIGHT
  pub time_mutation : w.time_mutation ≤ MAX_WEIGHT

-- each setting is in its range
pub record AreInRange (s : Learning) : Type 0 where
  pub some_plans : 1 ≤ s.memory_size
  pub few_plans : s.memory_size ≤ MAX_PLANS
  pub weights : AreWeights s.weights
  pub some_unit : 1 ≤ s.logit_unit
  pub most_unit : s.logit_unit ≤ MAX_LOGIT_UNIT
  pub mutation : s.mutation_range ≤ LAST_SECOND
  pub innovation : s.innovation_last ≤ LAST_ITERATION
