-- The values of the settings, but those of scores.
use Rattle.std.specs.Prelude.{ℕ, nat_eq, codes, List, unwrap_or, Option, option_and_then}
use Rattle.serde_json.specs.{Data.Members, Find.get_member}
use Rattle.learning.specs.declared.settings.{Learning.Learning, StrategyWeights.StrategyWeights}
use Rattle.rows.specs.declared.settings.TrafficSettings.{TrafficSettings}
use Rattle.settings.specs.Looking.{whole}

-- where the random words of a run begin, the number of its last iteration, and what its days and its replanning go by
pub record Values : Type 0 where
  pub seed : ℕ
  pub last_iteration : ℕ
  pub traffic : TrafficSettings
  pub learning : Learning

-- the whole number that a key is given
abbrev pub given : List ℕ → Members → Option ℕ
given name members = option_and_then whole (get_member name members)

-- each key's number, or its default where the key is not given; without `hole_speed` there is none
unfoldable pub traffic_in : Members → TrafficSettings
traffic_in members = record {
  end_second = unwrap_or (given (codes "end_second") members) 108000;
  flow_permille = unwrap_or (given (codes "flow_permille") members) 1000;
  storage_permille = unwrap_or (given (codes "storage_permille") members) 1000;
  stuck = record {
    seconds = unwrap_or (given (codes "stuck_seconds") members) 10;
    push = nat_eq (unwrap_or (given (codes "stuck_push") members) 0) 1;
  };
  hole_speed = given (codes "hole_speed") members;
  dwell = record {
    per_stop = unwrap_or (given (codes "dwell_open") members) 4;
    per_alight = unwrap_or (given (codes "dwell_alight") members) 1;
    per_board = unwrap_or (given (codes "dwell_board") members) 2;
  };
}

-- without a key everybody keeps the plan that he has chosen
unfoldable pub strategy_weights_in : Members → StrategyWeights
strategy_weights_in members = record {
  keep_last_selected = unwrap_or (given (codes "weight_keep") members) 1;
  best_score = unwrap_or (given (codes "weight_best") members) 0;
  select_random = unwrap_or (given (codes "weight_random") members) 0;
  select_logit = unwrap_or (given (codes "weight_logit") members) 0;
  reroute = unwrap_or (given (codes "weight_reroute") members) 0;
  time_mutation = unwrap_or (given (codes "weight_time") members) 0;
}

unfoldable pub learning_in : Members → Learning
learning_in members = record {
  memory_size = unwrap_or (given (codes "memory_size") members) 5;
  weights = strategy_weights_in members;
  logit_unit = unwrap_or (given (codes "logit_unit") members) 1000000;
  mutation_range = unwrap_or (given (codes "mutation_range") members) 1800;
  innovation_last = unwrap_or (given (codes "innovation_last") members) 1000;
}

unfoldable pub values_in : Members → Values
values_in members = record {
  seed = unwrap_or (given (codes "seed") members) 4711;
  last_iteration = unwrap_or (given (codes "last_iteration") members) 0;
  traffic = traffic_in members;
  learning = learning_in members;
}
