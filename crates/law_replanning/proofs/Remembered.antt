-- Memories of a town stay such when persons replan.
use Rattle.std.proofs.Common.{◌≡◌, ℕ, zero, suc, ◌+◌, ◌-◌, ◌<◌, ◌≤◌, Bool, true, false, cond, List, [], ◌∷◌, ◌++◌, length, map, get_or, Option, None, ℤ, refl}
use Rattle.std.proofs.Common.{sym, ◌∙◌, ap, subst, arith, length-append}
use Rattle.std.proofs.lemmas.Bool.{and_from, and_parts, Decides.nat_tests}
use Rattle.std.proofs.lemmas.List.{length-replicate, Edits.length-remove, Elements.All-from_recursion, Elements.recursion_from_All}
use Rattle.std.specs.{List.list_all, List.enumerate_from, List.AllByRecursion as Each, Prelude.All, Prelude.nat_eq, Prelude.nat_lt, Prelude.remove}
use Rattle.limits.specs.declared.TheConstants.{MAX_PLANS}
use Rattle.draws.{proofs.Ranges.word_fits, specs.Words.Source, specs.Words.word}
use Rattle.learning.specs.{Strategies.strategy_of, declared.strategies.Strategy.Strategy}
use Rattle.learning.specs.declared.strategies.Strategy.TheVariants as strategy
use Rattle.rows.specs.{Joined.ends_of, PlanRows.PlanRows}
use Rattle.router.{proofs.Graphs.network_within, specs.Graphs.Graph}
use Rattle.walks.specs.Walks.{AreWithin}
use Rattle.plan_memory.specs.Memories.{MemoryRows, first_memory, chosen_plan, with_plan, with_choice, without, after_drops, reduced}
use Rattle.plan_memory.specs.{Scores.worst, Scores.best, declared.TheConstants.MAX_HELD, declared.choices.Choice.Choice}
use Rattle.plan_memory.specs.declared.choices.Choice.TheVariants as choice
use Rattle.replanning.specs.{Acts.mutated_plan, Legs.rerouted_plan}
use Rattle.replanning.specs.Persons.{Basis, by_strategy, words_of, replanned, all_replanned}
use Rattle.law_in_range.specs.Setups.{IsPlanIn}
use Rattle.town.specs.{Fits.legs_fit, Fits.fits, Rows.TownRows, Rows.IsTown}
use Rattle.law_replanning.proofs.Choosing.{worst_within, best_within, choice_within}
use Rattle.law_replanning.proofs.{Mutated.mutated_fits, Mutated.mutated_in, Rerouted.rerouted_fits, Rerouted.rerouted_in}
use Rattle.law_replanning.specs.{Memories.IsMemoryIn, Memories.hold_fitting, Memories.all_hold_fitting, Towns.IsBasisIn}

-- WHAT HOLDS OF ALL PLANS OF A MEMORY
left_over : {A : Type 0} (P : A → Type 0) (xs : List A) (i : ℕ) → Each P xs → Each P (remove xs i)
left_over P [] zero all = all
left_over P [] (suc i) all = all
left_over P (x ∷ xs) zero all = all.1
left_over P (x ∷ xs) (suc i) all = (all.0, left_over P xs i all.1)

one_behind : {A : Type 0} (P : A → Type 0) (xs : List A) (x : A) → Each P xs → P x → Each P (xs ++ x ∷ [])
one_behind P [] x all own = (own, tt)
one_behind P (y ∷ xs) x all own = (all.0, one_behind P xs x all.1 own)

each_passes : {A : Type 0} (p : A → Bool) (xs : List A) → list_all p xs ≡ true → Each (λ x. p x ≡ true) xs
each_passes p [] all = tt
each_passes p (x ∷ xs) all = let parts = and_parts (p x) (list_all p xs) all in (parts.0, each_passes p xs parts.1)

passes_each : {A : Type 0} (p : A → Bool) (xs : List A) → Each (λ x. p x ≡ true) xs → list_all p xs ≡ true
passes_each p [] all = refl
passes_each p (x ∷ xs) all = and_from (p x) (list_all p xs) all.0 (passes_each p xs all.1)

dropped : (P : PlanRows → Type 0) (drops : ℕ) (m : MemoryRows) → Each P m.plans → Each P (after_drops drops m).plans
unfolding after_drops
dropped P zero m all = all
dropped P (suc drops) m all = dropped P drops (without (worst m.scores) m) (left_over P m.plans (worst m.scores) all)

module _ (P : PlanRows → Type 0) (basis : Basis) (words : Source)
    (new_routes : (plan : PlanRows) → P plan → P (rerouted_plan basis.graph basis.arrive plan))
    (new_times : (plan : PlanRows) → P plan → P (mutated_plan basis.learning.mutation_range basis.end_second words plan)) where
  strategy_keeps : (s : Strategy) (m : MemoryRows) → Each P m.plans → P (chosen_plan m) → Each P (by_strategy basis words s m).plans
  unfolding by_strategy
  strategy_keeps strategy.KeepLastSelected m all own = all
  strategy_keeps strategy.BestScore m all own = all
  strategy_keeps strategy.SelectRandom m all own = all
  strategy_keeps strategy.SelectLogit m all own = all
  strategy_keeps strategy.ReRoute m all own =
      one_behind P m.plans (rerouted_plan basis.graph basis.arrive (chosen_plan m)) all (new_routes (chosen_plan m) own)
  strategy_keeps strategy.TimeMutation m all own =
      one_behind P m.plans (mutated_plan basis.learning.mutation_range basis.end_second words (chosen_plan m)) all
      (new_times (chosen_plan m) own)

-- THE NUMBERS OF A MEMORY
pub record HasChosen (m : MemoryRows) : Type 0 where
  pub each : length m.scores ≡ length m.plans
  pub chosen : m.chosen < length m.plans

before_place : (chosen place : ℕ) → nat_eq chosen place ≡ false → nat_lt place chosen ≡ false → chosen < place
before_place chosen place other later = grind (arith, nat_tests)

behind_place : (chosen place : ℕ) → nat_lt place chosen ≡ true → place < chosen
behind_place chosen place later = grind (arith, nat_tests)

chosen_by : (left : List (Option ℤ)) (place chosen n : ℕ) (same before : Bool) → nat_eq chosen place ≡ same → nat_lt place chosen ≡ before
    → length left ≡ n → 0 < n → chosen < n + 1 → place < n + 1
    → cond same (best left) (cond before (chosen - 1) chosen) < n
chosen_by left place chosen n true before is_same is_before count some within there = let best_in = best_within left (omega arith) in omega arith
chosen_by left place chosen n false true is_same is_before count some within there = let less = behind_place chosen place is_before in omega arith
chosen_by left place chosen n false false is_same is_before count some within there =
    let below : chosen < place = before_place chosen place is_same is_before in
    omega arith

without_has : (place : ℕ) (m : MemoryRows) → HasChosen m → place < length m.plans → 2 ≤ length m.plans → HasChosen (without place m)
without_has place m has there two =
    let plans = length-remove m.plans place there in
    let each = has.each in
    let chosen = has.chosen in
    let scores = length-remove m.scores place (omega arith) in
    record {
      each = omega arith;
      chosen = chosen_by (remove m.scores place) place m.chosen (length (remove m.plans place)) (nat_eq m.chosen place)
          (nat_lt place m.chosen) refl refl (omega arith) (omega arith) (omega arith) (omega arith);
    }

drops_have : (drops : ℕ) (m : MemoryRows) → HasChosen m → drops < length m.plans
    → HasChosen (after_drops drops m) × (length (after_drops drops m).plans + drops ≡ length m.plans)
unfolding after_drops
drops_have zero m has less = (has, omega arith)
drops_have (suc drops) m has less =
    let each = has.each in
    let place : ℕ = worst m.scores in
    let in_scores = worst_within m.scores (omega arith) in
    let there : place < length m.plans = omega arith in
    let fewer = length-remove m.plans place there in
    let rest = drops_have drops (without place m) (without_has place m has there (omega arith)) (omega arith) in
    (rest.0, omega (arith, rest.1))

-- no more plans than the size are left, and one of them is chosen
reduced_has : (size : ℕ) (m : MemoryRows) → HasChosen m → 1 ≤ size → HasChosen (reduced size m) × (length (reduced size m).plans ≤ size)
reduced_has size m has some =
    let chosen = has.chosen in
    let left = drops_have (length m.plans - size) m has (omega arith) in
    (left.0, omega (arith, left.1))

chosen_again : (how : Choice) (unit : ℕ) (words : Source) (m : MemoryRows) → HasChosen m → HasChosen (with_choice how unit (word words 1) m)
chosen_again how unit words m has =
    let each = has.each in
    let chosen = has.chosen in
    let within = choice_within how unit (word words 1) m.scores (word_fits words 1) (omega arith) in
    record { each = each; chosen = omega arith }

copied : (plan : PlanRows) (m : MemoryRows) → HasChosen m → length m.plans < MAX_HELD
    → HasChosen (with_plan m plan) × (length (with_plan m plan).plans ≤ MAX_HELD)
copied plan m has few =
    let each = has.each in
    let plans = length-append m.plans (plan ∷ []) in
    let scores = length-append m.scores (None ∷ []) in
    (record { each = omega arith; chosen = omega arith }, omega arith)

strategy_has : (basis : Basis) (words : Source) (s : Strategy) (m : MemoryRows) → HasChosen m → length m.plans < MAX_HELD
    → HasChosen (by_strategy basis words s m) × (length (by_strategy basis words s m).plans ≤ MAX_HELD)
unfolding by_strategy
strategy_has basis words strategy.KeepLastSelected m has few = (has, omega arith)
strategy_has basis words strategy.BestScore m has few = (chosen_again choice.Best basis.learning.logit_unit words m has, omega arith)
strategy_has basis words strategy.SelectRandom m has few = (chosen_again choice.Random basis.learning.logit_unit words m has, omega arith)
strategy_has basis words strategy.SelectLogit m has few = (chosen_again choice.Logit basis.learning.logit_unit words m has, omega arith)
strategy_has basis words strategy.ReRoute m has few = copied (rerouted_plan basis.graph basis.arrive (chosen_plan m)) m has few
strategy_has basis words strategy.TimeMutation m has few =
    copied (mutated_plan basis.learning.mutation_range basis.end_second words (chosen_plan m)) m has few

-- the plan that is chosen is one of them
plan_at : (P : PlanRows → Type 0) (plans : List PlanRows) (k : ℕ) (d : PlanRows) → Each P plans → P d → P (get_or plans k d)
plan_at P [] k d all own = own
plan_at P (plan ∷ plans) zero d all own = all.0
plan_at P (plan ∷ plans) (suc k) d all own = plan_at P plans k d all.1 own

pub chosen_in : (T : TownRows) (m : MemoryRows) → IsMemoryIn T m → IsPlanIn T (chosen_plan m)
chosen_in T m own = own.plans m.chosen (record { acts = []; legs = [] }) own.chosen

-- REPLANNING
module _ (T : TownRows) (town : IsTown T) (basis : Basis) (own : IsBasisIn T basis) where
  inside : AreWithin (length T.nodes) (ends_of T.links)
  inside = network_within (length T.nodes) T.links town.links

  routes_in : (plan : PlanRows) → IsPlanIn T plan → IsPlanIn T (rerouted_plan basis.graph basis.arrive plan)
  routes_in plan is = subst (λ (g : Graph). IsPlanIn T (rerouted_plan g basis.arrive plan)) (sym own.graph)
      (rerouted_in T basis.arrive own.fifo inside plan is)

  routes_fit : (plan : PlanRows) → fits T plan ≡ true → fits T (rerouted_plan basis.graph basis.arrive plan) ≡ true
  routes_fit plan is = subst (λ (g : Graph). fits T (rerouted_plan g basis.arrive plan) ≡ true) (sym own.graph)
      (rerouted_fits T basis.arrive own.fifo inside plan is)

  pub replanned_in : (person : ℕ) (m : MemoryRows) → IsMemoryIn T m → IsMemoryIn T (replanned basis person m)
  unfolding replanned
  replanned_in person m is =
      let ranges = own.ranges.learning in
      let some = ranges.some_plans in
      let few = ranges.few_plans in
      let words : Source = words_of basis person in
      let s : Strategy = strategy_of basis.learning basis.iteration (word words 0) in
      let size : ℕ = basis.learning.memory_size in
      let left = reduced_has size m (record { each = is.each; chosen = is.chosen }) some in
      let all : Each (IsPlanIn T) (reduced size m).plans =
      dropped (IsPlanIn T) (length m.plans - size) m (recursion_from_All (IsPlanIn T) m.plans is.plans) in
      let one : IsPlanIn T (chosen_plan (reduced size m)) =
      All-from_recursion (IsPlanIn T) (reduced size m).plans all (reduced size m).chosen (record { acts = []; legs = [] }) left.0.chosen in
      let after = strategy_has basis words s (reduced size m) left.0 (omega (arith, left.1)) in
      record {
        few = after.1;
        each = after.0.each;
        chosen = after.0.chosen;
        plans = All-from_recursion (IsPlanIn T) (by_strategy basis words s (reduced size m)).plans
            (strategy_keeps (IsPlanIn T) basis words routes_in
            (mutated_in T basis.learning.mutation_range basis.end_second words own.ranges.end_second) s (reduced size m) all one);
      }

  all_from : (k : ℕ) (memories : List MemoryRows) → Each (IsMemoryIn T) memories
      → Each (IsMemoryIn T) (map (λ (one : ℕ × MemoryRows). replanned basis one.0 one.1) (enumerate_from k memories))
  all_from k [] all = tt
  all_from k (m ∷ memories) all = (replanned_in k m all.0, all_from (k + 1) memories all.1)

  pub all_in : (memories : List MemoryRows) → All (IsMemoryIn T) memories → All (IsMemoryIn T) (all_replanned basis memories)
  all_in memories all = All-from_recursion (IsMemoryIn T) (all_replanned basis memories)
      (all_from 0 memories (recursion_from_All (IsMemoryIn T) memories all))

  -- THE SAME OF PLANS THAT FIT, WHATEVER ELSE HOLDS OF THEM
  none_fits : fits T (record { acts = []; legs = [] }) ≡ true
  unfolding fits legs_fit
  none_fits = refl

  fit_again : (person : ℕ) (m : MemoryRows) → hold_fitting T m ≡ true → hold_fitting T (replanned basis person m) ≡ true
  unfolding replanned
  fit_again person m fit =
      let P : PlanRows → Type 0 = λ p. fits T p ≡ true in
      let words : Source = words_of basis person in
      let s : Strategy = strategy_of basis.learning basis.iteration (word words 0) in
      let size : ℕ = basis.learning.memory_size in
      let all : Each P (reduced size m).plans = dropped P (length m.plans - size) m (each_passes (fits T) m.plans fit) in
      let one : P (chosen_plan (reduced size m)) =
      plan_at P (reduced size m).plans (reduced size m).chosen (record { acts = []; legs = [] }) all none_fits in
      passes_each (fits T) (by_strategy basis words s (reduced size m)).plans
      (strategy_keeps P basis words routes_fit
      (λ plan is. mutated_fits T basis.learning.mutation_range basis.end_second words plan ∙ is) s (reduced size m) all one)

  fit_from : (k : ℕ) (memories : List MemoryRows) → all_hold_fitting T memories ≡ true
      → all_hold_fitting T (map (λ (one : ℕ × MemoryRows). replanned basis one.0 one.1) (enumerate_from k memories)) ≡ true
  fit_from k [] fit = refl
  fit_from k (m ∷ memories) fit =
      let parts = and_parts (hold_fitting T m) (all_hold_fitting T memories) fit in
      and_from (hold_fitting T (replanned basis k m))
      (all_hold_fitting T (map (λ (one : ℕ × MemoryRows). replanned basis one.0 one.1) (enumerate_from (k + 1) memories)))
      (fit_again k m parts.0) (fit_from (k + 1) memories parts.1)

  pub all_fit_again : (memories : List MemoryRows) → all_hold_fitting T memories ≡ true → all_hold_fitting T (all_replanned basis memories) ≡ true
  all_fit_again memories fit = fit_from 0 memories fit

-- as many memories as before
count_from : (basis : Basis) (k : ℕ) (memories : List MemoryRows)
    → length (map (λ (one : ℕ × MemoryRows). replanned basis one.0 one.1) (enumerate_from k memories)) ≡ length memories
count_from basis k [] = refl
count_from basis k (m ∷ memories) = ap suc (count_from basis (k + 1) memories)

pub replanned_count : (basis : Basis) (memories : List MemoryRows) → length (all_replanned basis memories) ≡ length memories
replanned_count basis memories = count_from basis 0 memories

-- at first
pub first_in : (T : TownRows) (plans : List PlanRows) → 1 ≤ length plans → length plans ≤ MAX_PLANS → All (IsPlanIn T) plans
    → IsMemoryIn T (first_memory plans)
first_in T plans some few all = record {
  few = omega arith;
  each = length-replicate (length plans) None;
  chosen = omega arith;
  plans = all;
}
