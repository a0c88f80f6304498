-- Which strategy a word picks.
use Rattle.std.specs.Prelude.{◌≡◌, ℕ, nat_eq, nat_le, List, [], ◌∷◌, sum, slice_index_or, if◌then◌else◌}
use Rattle.draws.specs.Choices.{pick}
use Rattle.learning.specs.declared.{settings.Learning.Learning, strategies.Strategy.Strategy, strategies.TheConstants.STRATEGIES}
use Rattle.learning.specs.declared.strategies.Strategy.TheVariants as strategy

-- the weight in an iteration of a strategy that makes new plans: none after the last iteration of innovation
abbrev pub innovating : Learning → ℕ → ℕ → ℕ
innovating learning iteration weight = if nat_le iteration learning.innovation_last then weight else 0

-- the weights of the strategies in an iteration, in their order
unfoldable pub weights_in : Learning → ℕ → List ℕ
weights_in learning iteration =
    learning.weights.keep_last_selected
    ∷ learning.weights.best_score
    ∷ learning.weights.select_random
    ∷ learning.weights.select_logit
    ∷ innovating learning iteration learning.weights.reroute
    ∷ innovating learning iteration learning.weights.time_mutation
    ∷ []

-- the strategy that the word picks by these weights; where all are zero, it is to keep the chosen plan
unfoldable pub strategy_of : Learning → ℕ → ℕ → Strategy
strategy_of learning iteration word =
    if nat_eq (sum (weights_in learning iteration)) 0 then strategy.KeepLastSelected
    else slice_index_or STRATEGIES (pick (weights_in learning iteration) word) strategy.KeepLastSelected

-- no strategy that makes do with the plans that are there has a weight
pub record HaveNoOtherWeight (learning : Learning) : Type 0 where
  pub keep_last_selected : learning.weights.keep_last_selected ≡ 0
  pub best_score : learning.weights.best_score ≡ 0
  pub select_random : learning.weights.select_random ≡ 0
  pub select_logit : learning.weights.select_logit ≡ 0
