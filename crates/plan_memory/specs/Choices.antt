-- Which of a person's plans is chosen, by their scores and a random word.
use Rattle.std.specs.Prelude.{ℕ, ◌-◌, ◌/◌, ◌^◌, min, List, length, map, replicate, unwrap_or, Option, None, Some, ℤ, pos, ◌-ℤ◌}
use Rattle.std.specs.Int.RustNames.{unsigned_abs}
use Rattle.draws.specs.Choices.{pick}
use Rattle.plan_memory.specs.{Scores.best, Scores.highest, declared.choices.Choice.Choice}
use Rattle.plan_memory.specs.declared.choices.Choice.TheVariants as choice

-- how often a plan's weight is halved: once for each whole unit by which its score is below the highest, 30 times at most
abbrev pub halvings : ℕ → ℤ → ℤ → ℕ
halvings unit most score = min 30 (unsigned_abs (most -ℤ score) / unit)

-- the weight of a plan: 2^30 where it has no score or the highest one
abbrev pub logit_weight : ℕ → ℤ → Option ℤ → ℕ
logit_weight unit most None = 2 ^ 30
logit_weight unit most (Some score) = 2 ^ (30 - halvings unit most score)

-- the weights of plans with these scores
unfoldable pub logit_weights : ℕ → List (Option ℤ) → List ℕ
logit_weights unit scores = map (logit_weight unit (unwrap_or (highest scores) (pos 0))) scores

-- the place of the plan that is chosen: the best one; any one, each as likely as another; or one by these weights
unfoldable pub place_chosen : Choice → ℕ → ℕ → List (Option ℤ) → ℕ
place_chosen choice.Best unit word scores = best scores
place_chosen choice.Random unit word scores = pick (replicate (length scores) 1) word
place_chosen choice.Logit unit word scores = pick (logit_weights unit scores) word
