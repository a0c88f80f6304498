-- The plans of all persons fit, where nothing speaks against a leg of any.
use Rattle.scenario.proofs.Common.{◌≡◌, List, ℕ, map, length, refl, None, true, Option, arith, [], ◌∷◌, ◌&&◌, drop, get_or, ◌++◌, and_parts, length-map}
use Rattle.scenario.proofs.Common.{list_all, flat_map, nat_le, Tables, or_else, PlanRows, all_plan_rows, plan_rows, Plan, all_fit, are_fitting, plan_in_town}
use Rattle.scenario.proofs.{Common.plans_fault, Common.LegChecks, Common.all_plans_fault, Common.fits, Common.TownRows, LegFits.Meets, LegFits.plan_meets}
use Rattle.std.{proofs.lemmas.List.drop_all, specs.List.AllByRecursion as Each}
use Rattle.records.proofs.{Sound.both_true, Unrefused.or_none}
use Rattle.plans.{proofs.Shapes.IsPlan, specs.Values.is_plan_named, specs.Values.are_plans}

pub or_else_assoc : {A : Type 0} (a b c : Option A) → or_else a (or_else b c) ≡ or_else (or_else a b) c
or_else_assoc None b c = refl
or_else_assoc (Option.Some a) b c = refl

abbrev no_rows : List ℕ
no_rows = []

drop_none : (n : ℕ) → drop n no_rows ≡ []
drop_none n = drop_all n no_rows (omega arith)

-- the faults of plans, part by part
pub plans_fault-append : (W : LegChecks) (rows : List ℕ) (xs ys : List PlanRows) → plans_fault W rows (xs ++ ys) ≡ or_else (plans_fault W rows xs) (plans_fault W (drop (length xs) rows) ys)
unfolding plans_fault
plans_fault-append W rows [] ys = refl
plans_fault-append W [] (x ∷ xs) ys = rw (plans_fault-append W [] xs ys, or_else_assoc, drop_none (length xs))
plans_fault-append W (row ∷ rows) (x ∷ xs) ys = rw (plans_fault-append W rows xs ys, or_else_assoc)

module _ (T : TownRows) (W : LegChecks) (tables : Tables) (ends : List (ℕ × ℕ)) (m : Meets T W tables ends) where
  own_meet : (rows : List ℕ) (plans : List PlanRows) → list_all (is_plan_named tables ends) plans ≡ true → Each IsPlan plans → plans_fault W rows plans ≡ None
      → list_all (fits T) (map (plan_in_town W.numbers) plans) ≡ true
  unfolding plans_fault
  own_meet rows [] named kept none = refl
  own_meet rows (plan ∷ plans) named kept none =
      let parts = and_parts (is_plan_named tables ends plan) _ named in
      let free = or_none _ _ none in
      both_true _ _ (plan_meets T W tables ends m (get_or rows 0 0) plan parts.0 free.0 kept.0.one_more) (own_meet (drop 1 rows) plans parts.1 kept.1 free.1)

  person_meets : (rows : List ℕ) (plans : List PlanRows) → are_plans tables ends plans ≡ true → Each IsPlan plans → plans_fault W rows plans ≡ None
      → are_fitting T (map (plan_in_town W.numbers) plans) ≡ true
  unfolding are_plans are_fitting
  person_meets rows plans sound kept none =
      let parts = and_parts (nat_le 1 (length plans) && nat_le (length plans) 5) _ sound in
      rw (length-map plans (plan_in_town W.numbers)) (both_true _ _ parts.0 (own_meet rows plans parts.1 kept none))

  -- all persons' plans fit
  pub all_meet : (rows : List ℕ) (plans : List (List PlanRows)) → list_all (are_plans tables ends) plans ≡ true → Each (Each IsPlan) plans
      → all_plans_fault W rows plans ≡ None
      → all_fit T (map (map (plan_in_town W.numbers)) plans) ≡ true
  all_meet rows [] sound kept none = refl
  all_meet rows (own ∷ plans) sound kept none =
      let parts = and_parts (are_plans tables ends own) _ sound in
      let free = or_none _ _ (rw (plans_fault-append W rows own (flat_map (λ x. x) plans)) at none) in
      both_true _ _ (person_meets rows own parts.0 kept.0 free.0) (all_meet (drop (length own) rows) plans parts.1 kept.1 free.1)

own_kept : (plans : List Plan) → Each IsPlan (map plan_rows plans)
own_kept [] = tt
own_kept (plan ∷ plans) = (record { one_more = plan.one_more; few = plan.few; ends = plan.ends; legs = plan.sound }, own_kept plans)

-- what the type of a plan keeps
pub all_kept : (plans : List (List Plan)) → Each (Each IsPlan) (all_plan_rows plans)
all_kept [] = tt
all_kept (own ∷ plans) = (own_kept own, all_kept plans)
