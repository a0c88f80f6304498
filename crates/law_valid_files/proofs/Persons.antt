-- What persons remember of files without a fault: plans that fit the town of these files.
use Rattle.scenario.proofs.Common.{◌≡◌, ℕ, List, map, ◌∙◌, length, refl, true, arith, ◌≤◌, [], ◌∷◌, and_parts, nat_tests, length-map, list_all, nat_le}
use Rattle.scenario.proofs.Common.{PlanRows, all_fit, are_few, are_fitting, plan_in_town, leg_in_town, fits, TownRows, None}
use Rattle.scenario.{proofs.Renumbered.still_legs, specs.Legs.Numbers}
use Rattle.std.{proofs.lemmas.List.length-replicate, proofs.lemmas.List.Elements.All-from_recursion, specs.List.AllByRecursion as Each}
use Rattle.limits.specs.declared.TheConstants.{MAX_PLANS}
use Rattle.plans.proofs.Shapes.{IsPlan}
use Rattle.plan_memory.specs.Memories.{MemoryRows, first_memory}
use Rattle.law_in_range.specs.Setups.{IsPlanIn}
use Rattle.law_replanning.specs.Memories.{IsMemoryIn}
use Rattle.law_valid_files.specs.Valid.{IsFirst}

-- a plan with the town's numbers, which fits it
in_town : (T : TownRows) (N : Numbers) (plan : PlanRows) → IsPlan plan → fits T (plan_in_town N plan) ≡ true → IsPlanIn T (plan_in_town N plan)
in_town T N plan kept fit =
    let count = length-map plan.legs (leg_in_town N) in
    let more = kept.one_more in
    let few = kept.few in
    record {
      one_more = omega arith;
      few = omega arith;
      ends = kept.ends;
      legs = still_legs N plan.legs ∙ kept.legs;
      fit = fit;
    }

own_in_town : (T : TownRows) (N : Numbers) (plans : List PlanRows) → Each IsPlan plans → list_all (fits T) (map (plan_in_town N) plans) ≡ true → Each (IsPlanIn T) (map (plan_in_town N) plans)
own_in_town T N [] kept fit = tt
own_in_town T N (plan ∷ plans) kept fit =
    let parts = and_parts (fits T (plan_in_town N plan)) (list_all (fits T) (map (plan_in_town N) plans)) fit in
    (in_town T N plan kept.0 parts.0, own_in_town T N plans kept.1 parts.1)

at_least : (m n : ℕ) → nat_le m n ≡ true → m ≤ n
at_least m n h = grind (arith, nat_tests)

-- what a person remembers at first, in a town
pub record IsFirstIn (T : TownRows) (m : MemoryRows) : Type 0 where
  pub memory : IsMemoryIn T m
  pub first : IsFirst m

remembered : (T : TownRows) (own : List PlanRows) → 1 ≤ length own → length own ≤ MAX_PLANS → Each (IsPlanIn T) own → IsFirstIn T (first_memory own)
remembered T own some few plans = record {
  memory = record {
    few = omega (arith, few);
    each = length-replicate (length own) None;
    chosen = omega (arith, some);
    plans = All-from_recursion (IsPlanIn T) own plans;
  };
  first = record { few = few; untried = refl };
}

person_in_town : (T : TownRows) (N : Numbers) (plans : List PlanRows) → Each IsPlan plans → are_fitting T (map (plan_in_town N) plans) ≡ true → IsFirstIn T (first_memory (map (plan_in_town N) plans))
unfolding are_fitting
person_in_town T N plans kept fit =
    let own = map (plan_in_town N) plans in
    let parts = and_parts (are_few own) (list_all (fits T) own) fit in
    let count = and_parts (nat_le 1 (length own)) (nat_le (length own) MAX_PLANS) parts.0 in
    remembered T own (at_least 1 (length own) count.0) (at_least (length own) MAX_PLANS count.1) (own_in_town T N plans kept parts.1)

-- the same of all persons
pub all_in_town : (T : TownRows) (N : Numbers) (plans : List (List PlanRows)) → Each (Each IsPlan) plans → all_fit T (map (map (plan_in_town N)) plans) ≡ true
    → Each (IsFirstIn T) (map first_memory (map (map (plan_in_town N)) plans))
all_in_town T N [] kept fit = tt
all_in_town T N (own ∷ plans) kept fit =
    let parts = and_parts (are_fitting T (map (plan_in_town N) own)) (all_fit T (map (map (plan_in_town N)) plans)) fit in
    (person_in_town T N own kept.0 parts.0, all_in_town T N plans kept.1 parts.1)

-- and each by itself
pub each_memory : (T : TownRows) (memories : List MemoryRows) → Each (IsFirstIn T) memories → Each (IsMemoryIn T) memories
each_memory T [] kept = tt
each_memory T (m ∷ memories) kept = (kept.0.memory, each_memory T memories kept.1)

pub each_first : (T : TownRows) (memories : List MemoryRows) → Each (IsFirstIn T) memories → Each IsFirst memories
each_first T [] kept = tt
each_first T (m ∷ memories) kept = (kept.0.first, each_first T memories kept.1)
