-- What persons remember at first, whose plans fit.
use Rattle.scenario.proofs.Common.{◌≡◌, List, ◌≤◌, map, length, refl, true, arith, [], ◌∷◌, nat_tests, length-map, list_all, PlanRows, Plan, plan_rows}
use Rattle.scenario.{proofs.Common.TownRows, proofs.Common.are_few, proofs.Common.are_fitting, proofs.Common.all_fit, specs.Fitting.all_remember_fitting}
use Rattle.plan_memory.specs.{Memories.first_memory, declared.TheConstants.MAX_HELD}

-- there are few plans of each person
pub few_fitting : (T : TownRows) (plans : List (List PlanRows)) → all_fit T plans ≡ true → list_all are_few plans ≡ true
unfolding are_fitting
few_fitting T [] fit = refl
few_fitting T (own ∷ plans) fit = grind (arith, few_fitting T plans)

-- so many as a memory holds
pub few_held : (own : List Plan) → are_few (map plan_rows own) ≡ true → (1 ≤ length own) × (length own ≤ MAX_HELD)
few_held own few =
    let count = length-map own plan_rows in
    (grind (arith, nat_tests), grind (arith, nat_tests))

-- they remember plans that fit
pub remembered_fit : (T : TownRows) (plans : List (List PlanRows)) → all_fit T plans ≡ true → all_remember_fitting T (map first_memory plans) ≡ true
unfolding are_fitting
remembered_fit T [] fit = refl
remembered_fit T (own ∷ plans) fit = grind (arith, remembered_fit T plans)
