-- The keys of the settings, and which values each may have.
use Rattle.std.specs.{List.list_any, Prelude.◌≡◌, Prelude.ℕ, Prelude.◌-◌, Prelude.◌^◌, Prelude.Bool, Prelude.true}
use Rattle.std.specs.Prelude.{false, not, ◌||◌, bytes_eq, codes, is_some, List, [], ◌∷◌, Option, None, Some, option_and_then, Result, Ok, Err, ℤ, pos, neg_ℤ}
use Rattle.limits.specs.declared.TheConstants.{LAST_SECOND, MAX_DWELL, MAX_PERMILLE, MAX_PLANS, MAX_SPEED}
use Rattle.edge_files.specs.declared.reasons.Reason.{Reason}
use Rattle.edge_files.specs.declared.reasons.Reason.TheVariants as reason
use Rattle.learning.specs.declared.TheConstants.{LAST_ITERATION, MAX_LOGIT_UNIT, MAX_WEIGHT}
use Rattle.scoring.specs.declared.TheConstants.{MAX_PER_SECOND, MAX_WORTH}
use Rattle.serde_json.specs.{Data.Data, Data.Members, Find.get_member}
use Rattle.settings.specs.Looking.{has_other_key, whole_in, signed_in}
use Rattle.settings.specs.{Modes.modes_of, Modes.has_unknown_mode_key, NamedTables.tables_of, NamedTables.has_unknown_table_key}

-- a whole number from low to high, and one that may be below zero
abbrev pub is_whole : ℕ → ℕ → Data → Bool
is_whole low high value = is_some (whole_in low high value)

abbrev pub is_signed : ℤ → ℤ → Data → Bool
is_signed low high value = is_some (signed_in low high value)

-- the name of a key, and which values it may have
abbrev pub Key : Type 0
Key = List ℕ × (Data → Bool)

-- the table of the keys of a run: where its random words begin, and the number of its last iteration
abbrev pub run_keys : List Key
run_keys =
    (codes "seed", is_whole 0 (2 ^ 64 - 1))
    ∷ (codes "last_iteration", is_whole 0 LAST_ITERATION)
    ∷ []

-- the table of the keys of traffic: seconds, permille, centimetres a second
abbrev pub traffic_keys : List Key
traffic_keys =
    (codes "end_second", is_whole 1 LAST_SECOND)
    ∷ (codes "flow_permille", is_whole 1 MAX_PERMILLE)
    ∷ (codes "storage_permille", is_whole 1 MAX_PERMILLE)
    ∷ (codes "stuck_seconds", is_whole 1 LAST_SECOND)
    ∷ (codes "stuck_push", is_whole 0 1)
    ∷ (codes "hole_speed", is_whole 1 MAX_SPEED)
    ∷ (codes "dwell_open", is_whole 0 MAX_DWELL)
    ∷ (codes "dwell_alight", is_whole 0 MAX_DWELL)
    ∷ (codes "dwell_board", is_whole 0 MAX_DWELL)
    ∷ []

-- the table of the keys of replanning: plans, micro-utils, seconds, and the number of an iteration
abbrev pub learning_keys : List Key
learning_keys =
    (codes "memory_size", is_whole 1 MAX_PLANS)
    ∷ (codes "logit_unit", is_whole 1 MAX_LOGIT_UNIT)
    ∷ (codes "mutation_range", is_whole 0 LAST_SECOND)
    ∷ (codes "innovation_last", is_whole 0 LAST_ITERATION)
    ∷ []

-- the table of the weights of the strategies of replanning
abbrev pub weight_keys : List Key
weight_keys =
    (codes "weight_keep", is_whole 0 MAX_WEIGHT)
    ∷ (codes "weight_best", is_whole 0 MAX_WEIGHT)
    ∷ (codes "weight_random", is_whole 0 MAX_WEIGHT)
    ∷ (codes "weight_logit", is_whole 0 MAX_WEIGHT)
    ∷ (codes "weight_reroute", is_whole 0 MAX_WEIGHT)
    ∷ (codes "weight_time", is_whole 0 MAX_WEIGHT)
    ∷ []

-- the table of the keys of scores that are no list: micro-utils, and the object of the modes
abbrev pub cost_keys : List Key
cost_keys =
    (codes "late_per_second", is_signed (neg_ℤ MAX_PER_SECOND) (pos 0))
    ∷ (codes "stuck", is_signed (neg_ℤ MAX_WORTH) (pos 0))
    ∷ (codes "modes", λ value. is_some (modes_of value))
    ∷ []

-- a key of the table has this name
unfoldable pub is_in : List Key → List ℕ → Bool
is_in table name = list_any (λ key. bytes_eq name key.0) table

-- there is a key of this name
unfoldable pub is_key : List ℕ → Bool
is_key name =
    is_in run_keys name
    || is_in traffic_keys name
    || is_in learning_keys name
    || is_in weight_keys name
    || (is_in cost_keys name || bytes_eq name (codes "tables"))

-- a member of the settings, of the modes, of a mode or of a table has a name that there is not
unfoldable pub has_unknown_key : Members → Bool
has_unknown_key members =
    has_other_key is_key members
    || has_unknown_mode_key (get_member (codes "modes") members)
    || has_unknown_table_key (get_member (codes "tables") members)

-- a value is given that is not allowed
abbrev pub is_bad : (Data → Bool) → Option Data → Bool
is_bad allowed None = false
is_bad allowed (Some value) = not (allowed value)

-- what is told of a key: the number that it is given, or that its value is not allowed
abbrev pub TellsKey : {A : Type 0} → (Data → Bool) → (Data → Option A) → Option Data → Result (Option A) Reason → Type 0
TellsKey allowed says value (Ok number) = (is_bad allowed value ≡ false) × (number ≡ option_and_then says value)
TellsKey allowed says value (Err why) = (why ≡ reason.ValueBad) × (is_bad allowed value ≡ true)

-- a key of the table is given a value that it may not have
abbrev pub has_bad_in : List Key → Members → Bool
has_bad_in table members = list_any (λ key. is_bad key.1 (get_member key.0 members)) table

-- the same of the keys of traffic, of the weights, and of all keys of replanning
unfoldable pub has_bad_traffic : Members → Bool
has_bad_traffic members = has_bad_in traffic_keys members

unfoldable pub has_bad_weight : Members → Bool
has_bad_weight members = has_bad_in weight_keys members

unfoldable pub has_bad_learning : Members → Bool
has_bad_learning members = has_bad_in learning_keys members || has_bad_weight members

-- the same of all keys that are no keys of scores, and of these
unfoldable pub has_bad_value : Members → Bool
has_bad_value members = has_bad_in run_keys members || has_bad_traffic members || has_bad_learning members

unfoldable pub has_bad_cost : Members → Bool
has_bad_cost members = has_bad_in cost_keys members

abbrev pub has_bad_scoring : Members → Bool
has_bad_scoring members = has_bad_cost members || is_bad (λ value. is_some (tables_of value)) (get_member (codes "tables") members)
