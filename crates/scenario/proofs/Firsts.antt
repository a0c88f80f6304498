-- The first fault of all persons' plans, person by person.
use Rattle.scenario.proofs.AllFit.{plans_fault-append}
use Rattle.scenario.proofs.Common.{◌≡◌, List, ℕ, map, sym, ◌∙◌, ap, length, None, true, Option, arith, ◌<◌, ◌≤◌, ◌∷◌, drop, false, get_or, suc, ◌+◌, length-map}
use Rattle.scenario.proofs.Common.{flat_map, RowFault, or_else, PlanRows, all_plan_rows, plan_rows, Plan, plans_fault, LegChecks, all_plans_fault, plan_fault}
use Rattle.std.{proofs.Common.drop-cons, proofs.Common.add-one, proofs.Math.ListN.get_or-map, proofs.lemmas.List.drop_all, specs.Prelude.is_some}

or_else-some : {A : Type 0} (a b : Option A) → is_some a ≡ true → or_else a b ≡ a
or_else-some a b h = grind arith

or_else-none : {A : Type 0} (a b : Option A) → is_some a ≡ false → or_else a b ≡ b
or_else-none a b h = grind arith

-- one is taken from those that are left
taken : {A B : Type 0} (f : A → B) (xs : List A) (i : ℕ) (x : A) → i < length xs → x ≡ get_or xs i x → drop i (map f xs) ≡ f x ∷ drop (i + 1) (map f xs)
taken f xs i x h is =
    let within : i < length (map f xs) = rw (length-map xs f) h in
    rw (add-one, drop-cons (map f xs) i (f x)) (ap (λ y. y ∷ drop (suc i) (map f xs)) (get_or-map f xs i x ∙ ap f (sym is)))

-- a fault that is told of one of those that are left is that of all
told_here : (fault one behind left all : Option RowFault) → left ≡ all → left ≡ or_else one behind → fault ≡ one → is_some fault ≡ true → fault ≡ all
told_here fault one behind left all same split told some = sym (or_else-some fault behind some) ∙ ap (λ (f : Option RowFault). or_else f behind) told ∙ sym split ∙ same

-- where that one has none, it is that of the ones behind
told_behind : (fault one behind left all : Option RowFault) → left ≡ all → left ≡ or_else one behind → fault ≡ one → is_some fault ≡ false → behind ≡ all
told_behind fault one behind left all same split told none = sym (or_else-none fault behind none) ∙ ap (λ (f : Option RowFault). or_else f behind) told ∙ sym split ∙ same

-- PLANS
one_plan : (W : LegChecks) (rest : List ℕ) (plans : List Plan) (i : ℕ) (plan : Plan) → i < length plans → plan ≡ get_or plans i plan
    → plans_fault W rest (drop i (map plan_rows plans)) ≡ or_else (plan_fault W (get_or rest 0 0) (plan_rows plan)) (plans_fault W (drop 1 rest) (drop (i + 1) (map plan_rows plans)))
unfolding plans_fault
one_plan W rest plans i plan h is = ap (λ (left : List PlanRows). plans_fault W rest left) (taken plan_rows plans i plan h is)

pub plan_here : (W : LegChecks) (rows rest : List ℕ) (plans : List Plan) (i row : ℕ) (plan : Plan) (fault : Option RowFault)
    → plans_fault W rest (drop i (map plan_rows plans)) ≡ plans_fault W rows (map plan_rows plans) → i < length plans → plan ≡ get_or plans i plan
    → row ≡ get_or rest 0 0 → fault ≡ plan_fault W row (plan_rows plan) → is_some fault ≡ true → fault ≡ plans_fault W rows (map plan_rows plans)
plan_here W rows rest plans i row plan fault left h is first told some =
    told_here fault _ _ _ _ left (one_plan W rest plans i plan h is) (told ∙ ap (λ (r : ℕ). plan_fault W r (plan_rows plan)) first) some

pub plan_behind : (W : LegChecks) (rows rest after : List ℕ) (plans : List Plan) (i row : ℕ) (plan : Plan) (fault : Option RowFault)
    → plans_fault W rest (drop i (map plan_rows plans)) ≡ plans_fault W rows (map plan_rows plans) → i < length plans → plan ≡ get_or plans i plan
    → row ≡ get_or rest 0 0 → fault ≡ plan_fault W row (plan_rows plan) → is_some fault ≡ false → after ≡ drop 1 rest
    → plans_fault W after (drop (i + 1) (map plan_rows plans)) ≡ plans_fault W rows (map plan_rows plans)
plan_behind W rows rest after plans i row plan fault left h is first told none dropped =
    ap (λ (r : List ℕ). plans_fault W r (drop (i + 1) (map plan_rows plans))) dropped
    ∙ told_behind fault _ _ _ _ left (one_plan W rest plans i plan h is) (told ∙ ap (λ (r : ℕ). plan_fault W r (plan_rows plan)) first) none

pub plan_none : (W : LegChecks) (rows rest : List ℕ) (plans : List Plan) (i : ℕ)
    → plans_fault W rest (drop i (map plan_rows plans)) ≡ plans_fault W rows (map plan_rows plans) → i ≡ length plans → None ≡ plans_fault W rows (map plan_rows plans)
unfolding plans_fault
plan_none W rows rest plans i left end =
    let past : length (map plan_rows plans) ≤ i = omega (arith, length-map plans plan_rows, end) in
    ap (λ (l : List PlanRows). plans_fault W rest l) (sym (drop_all i (map plan_rows plans) past)) ∙ left

-- PERSONS
-- the first fault of those that are left is the person's, or else that of the ones behind
one_person : (W : LegChecks) (rest : List ℕ) (plans : List (List Plan)) (i : ℕ) (own : List Plan) → i < length plans → own ≡ get_or plans i own
    → all_plans_fault W rest (drop i (all_plan_rows plans))
    ≡ or_else (plans_fault W rest (map plan_rows own)) (all_plans_fault W (drop (length (map plan_rows own)) rest) (drop (i + 1) (all_plan_rows plans)))
one_person W rest plans i own h is =
    ap (λ (left : List (List PlanRows)). all_plans_fault W rest left) (taken (map plan_rows) plans i own h is)
    ∙ plans_fault-append W rest (map plan_rows own) (flat_map (λ x. x) (drop (i + 1) (all_plan_rows plans)))

pub fault_here : (W : LegChecks) (rows rest : List ℕ) (plans : List (List Plan)) (i : ℕ) (own : List Plan) (fault : Option RowFault)
    → all_plans_fault W rest (drop i (all_plan_rows plans)) ≡ all_plans_fault W rows (all_plan_rows plans) → i < length plans → own ≡ get_or plans i own
    → fault ≡ plans_fault W rest (map plan_rows own) → is_some fault ≡ true → fault ≡ all_plans_fault W rows (all_plan_rows plans)
fault_here W rows rest plans i own fault left h is told some = told_here fault _ _ _ _ left (one_person W rest plans i own h is) told some

pub fault_behind : (W : LegChecks) (rows rest after : List ℕ) (plans : List (List Plan)) (i count : ℕ) (own : List Plan) (fault : Option RowFault)
    → all_plans_fault W rest (drop i (all_plan_rows plans)) ≡ all_plans_fault W rows (all_plan_rows plans) → i < length plans → own ≡ get_or plans i own
    → fault ≡ plans_fault W rest (map plan_rows own) → is_some fault ≡ false → count ≡ length own → after ≡ drop count rest
    → all_plans_fault W after (drop (i + 1) (all_plan_rows plans)) ≡ all_plans_fault W rows (all_plan_rows plans)
fault_behind W rows rest after plans i count own fault left h is told none counted dropped =
    ap (λ (r : List ℕ). all_plans_fault W r (drop (i + 1) (all_plan_rows plans))) (dropped ∙ ap (λ (n : ℕ). drop n rest) (counted ∙ sym (length-map own plan_rows)))
    ∙ told_behind fault _ _ _ _ left (one_person W rest plans i own h is) told none

pub fault_none : (W : LegChecks) (rows rest : List ℕ) (plans : List (List Plan)) (i : ℕ)
    → all_plans_fault W rest (drop i (all_plan_rows plans)) ≡ all_plans_fault W rows (all_plan_rows plans) → i ≡ length plans → None ≡ all_plans_fault W rows (all_plan_rows plans)
unfolding plans_fault
fault_none W rows rest plans i left end =
    let past : length (all_plan_rows plans) ≤ i = omega (arith, length-map plans (map plan_rows), end) in
    ap (λ (l : List (List PlanRows)). all_plans_fault W rest l) (sym (drop_all i (all_plan_rows plans) past)) ∙ left
