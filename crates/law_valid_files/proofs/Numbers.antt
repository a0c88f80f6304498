-- The settings of a file without a fault are in their ranges.
use Rattle.std.proofs.Common.{◌≡◌, ℕ, ◌≤◌, Bool, true, false, not, ◌&&◌, ◌||◌, List, Option, None, Some, refl, arith, lit≤}
use Rattle.std.proofs.lemmas.Bool.{or_parts, Decides.nat_tests}
use Rattle.std.specs.Prelude.{codes, cond, is_some, nat_le, option_and_then, unwrap_or}
use Rattle.limits.specs.declared.TheConstants.{LAST_SECOND, MAX_PERMILLE, MAX_PLANS, MAX_SPEED, MAX_DWELL}
use Rattle.learning.specs.{Ranges.AreWeights, declared.TheConstants.LAST_ITERATION, declared.TheConstants.MAX_LOGIT_UNIT, declared.TheConstants.MAX_WEIGHT}
use Rattle.learning.specs.Ranges as ranges
use Rattle.serde_json.specs.{Data.Data, Data.Members, Find.get_member}
use Rattle.edge_files.specs.declared.reasons.Reason.TheVariants as reason
use Rattle.records.{proofs.Unrefused.none_applies, specs.Files.is_too_long}
use Rattle.settings.specs.Keys.{is_whole, is_bad, has_unknown_key, has_bad_traffic, has_bad_weight, has_bad_learning, has_bad_value, has_bad_scoring}
use Rattle.settings.specs.Looking.{members_of, whole, if_from_to, whole_in}
use Rattle.settings.specs.Values.{Values, traffic_in, strategy_weights_in, learning_in, values_in}
use Rattle.settings.specs.Faults.{value_of, is_no_object, settings_fault, settings_of}
use Rattle.rows.specs.Settings.{is_hole_speed, AreInRange}

-- from low to high
abbrev IsWithin : ℕ → ℕ → ℕ → Type 0
IsWithin low high n = (low ≤ n) × (n ≤ high)

tested : (low high n : ℕ) → (nat_le low n && nat_le n high) ≡ true → IsWithin low high n
tested low high n h = (grind (arith, nat_tests), grind (arith, nat_tests))

-- a number that is no fault
chosen : (b : Bool) (n : ℕ) → not (is_some (cond b (Some n) None)) ≡ false → b ≡ true
chosen true n h = refl
chosen false n h = cc

-- a value that is no fault, or the default
value_within : (low high default : ℕ) (o : Option ℕ) → not (is_some (if_from_to low high o)) ≡ false → IsWithin low high default → IsWithin low high (unwrap_or o default)
value_within low high default None good d = cc
value_within low high default (Some n) good d = tested low high n (chosen (nat_le low n && nat_le n high) n good)

key_within : (low high default : ℕ) (o : Option Data) → is_bad (is_whole low high) o ≡ false → IsWithin low high default → IsWithin low high (unwrap_or (option_and_then whole o) default)
unfolding whole_in
key_within low high default None good d = d
key_within low high default (Some value) good d = value_within low high default (whole value) good d

speed_by : (o : Option ℕ) → not (is_some (if_from_to 1 MAX_SPEED o)) ≡ false → is_hole_speed o ≡ true
speed_by None good = cc
speed_by (Some n) good = chosen (nat_le 1 n && nat_le n MAX_SPEED) n good

speed_within : (o : Option Data) → is_bad (is_whole 1 MAX_SPEED) o ≡ false → is_hole_speed (option_and_then whole o) ≡ true
unfolding whole_in
speed_within None good = refl
speed_within (Some value) good = speed_by (whole value) good

traffic_free : (members : Members) → has_bad_traffic members ≡ false → AreInRange (traffic_in members)
unfolding has_bad_traffic traffic_in
traffic_free members good =
    let a = or_parts _ _ good in
    let b = or_parts _ _ a.1 in
    let c = or_parts _ _ b.1 in
    let d = or_parts _ _ c.1 in
    let e = or_parts _ _ d.1 in
    let f = or_parts _ _ e.1 in
    let g = or_parts _ _ f.1 in
    let h = or_parts _ _ g.1 in
    let i = or_parts _ _ h.1 in
    let end = key_within 1 LAST_SECOND 108000 (get_member (codes "end_second") members) a.0 (lit≤ tt, lit≤ tt) in
    let flow = key_within 1 MAX_PERMILLE 1000 (get_member (codes "flow_permille") members) b.0 (lit≤ tt, lit≤ tt) in
    let storage = key_within 1 MAX_PERMILLE 1000 (get_member (codes "storage_permille") members) c.0 (lit≤ tt, lit≤ tt) in
    let patience = key_within 1 LAST_SECOND 10 (get_member (codes "stuck_seconds") members) d.0 (lit≤ tt, lit≤ tt) in
    let per_stop = key_within 0 MAX_DWELL 4 (get_member (codes "dwell_open") members) g.0 (lit≤ tt, lit≤ tt) in
    let per_alight = key_within 0 MAX_DWELL 1 (get_member (codes "dwell_alight") members) h.0 (lit≤ tt, lit≤ tt) in
    let per_board = key_within 0 MAX_DWELL 2 (get_member (codes "dwell_board") members) i.0 (lit≤ tt, lit≤ tt) in
    record {
      begins = end.0;
      ends = end.1;
      some_flow = flow.0;
      most_flow = flow.1;
      some_storage = storage.0;
      most_storage = storage.1;
      some_patience = patience.0;
      most_patience = patience.1;
      holes = speed_within (get_member (codes "hole_speed") members) f.0;
      dwell = record { per_stop = per_stop.1; per_alight = per_alight.1; per_board = per_board.1 };
    }

weights_free : (members : Members) → has_bad_weight members ≡ false → AreWeights (strategy_weights_in members)
unfolding has_bad_weight strategy_weights_in
weights_free members good =
    let a = or_parts _ _ good in
    let b = or_parts _ _ a.1 in
    let c = or_parts _ _ b.1 in
    let d = or_parts _ _ c.1 in
    let e = or_parts _ _ d.1 in
    let f = or_parts _ _ e.1 in
    record {
      keep_last_selected = (key_within 0 MAX_WEIGHT 1 (get_member (codes "weight_keep") members) a.0 (lit≤ tt, lit≤ tt)).1;
      best_score = (key_within 0 MAX_WEIGHT 0 (get_member (codes "weight_best") members) b.0 (lit≤ tt, lit≤ tt)).1;
      select_random = (key_within 0 MAX_WEIGHT 0 (get_member (codes "weight_random") members) c.0 (lit≤ tt, lit≤ tt)).1;
      select_logit = (key_within 0 MAX_WEIGHT 0 (get_member (codes "weight_logit") members) d.0 (lit≤ tt, lit≤ tt)).1;
      reroute = (key_within 0 MAX_WEIGHT 0 (get_member (codes "weight_reroute") members) e.0 (lit≤ tt, lit≤ tt)).1;
      time_mutation = (key_within 0 MAX_WEIGHT 0 (get_member (codes "weight_time") members) f.0 (lit≤ tt, lit≤ tt)).1;
    }

members_learn : (members : Members) → has_bad_learning members ≡ false → ranges.AreInRange (learning_in members)
unfolding has_bad_learning learning_in
members_learn members good =
    let both = or_parts _ (has_bad_weight members) good in
    let a = or_parts _ _ both.0 in
    let b = or_parts _ _ a.1 in
    let c = or_parts _ _ b.1 in
    let d = or_parts _ _ c.1 in
    let size = key_within 1 MAX_PLANS 5 (get_member (codes "memory_size") members) a.0 (lit≤ tt, lit≤ tt) in
    let unit = key_within 1 MAX_LOGIT_UNIT 1000000 (get_member (codes "logit_unit") members) b.0 (lit≤ tt, lit≤ tt) in
    record {
      some_plans = size.0;
      few_plans = size.1;
      weights = weights_free members both.1;
      some_unit = unit.0;
      most_unit = unit.1;
      mutation = (key_within 0 LAST_SECOND 1800 (get_member (codes "mutation_range") members) c.0 (lit≤ tt, lit≤ tt)).1;
      innovation = (key_within 0 LAST_ITERATION 1000 (get_member (codes "innovation_last") members) d.0 (lit≤ tt, lit≤ tt)).1;
    }

-- the values of a run, each in its range
pub record AreSound (v : Values) : Type 0 where
  pub traffic : AreInRange v.traffic
  pub learning : ranges.AreInRange v.learning
  pub few_iterations : v.last_iteration ≤ LAST_ITERATION

members_free : (members : Members) → has_bad_value members ≡ false → AreSound (values_in members)
unfolding has_bad_value values_in
members_free members good =
    let a = or_parts _ (has_bad_learning members) good in
    let b = or_parts _ (has_bad_traffic members) a.0 in
    let c = or_parts _ _ b.0 in
    let d = or_parts _ _ c.1 in
    record {
      traffic = traffic_free members b.1;
      learning = members_learn members a.1;
      few_iterations = (key_within 0 LAST_ITERATION 0 (get_member (codes "last_iteration") members) d.0 (lit≤ tt, lit≤ tt)).1;
    }

pub settings_free : (bytes : List ℕ) → settings_fault bytes ≡ None → AreSound (settings_of bytes)
unfolding settings_fault settings_of
settings_free bytes none =
    let value = value_of bytes in
    let a = none_applies (is_too_long bytes) reason.TooLong _ none in
    let b = none_applies (is_no_object value) reason.NotJson _ a.1 in
    let c = none_applies (has_unknown_key (members_of value)) reason.KeyUnknown _ b.1 in
    let d = none_applies (has_bad_value (members_of value) || has_bad_scoring (members_of value)) reason.ValueBad _ c.1 in
    members_free (members_of value) (or_parts _ _ d.0).0
