-- The plans of a list, as their activities and legs: how many, and one more.
use Rattle.std.proofs.{Common.◌≡◌, Common.List, Common.[], Common.◌∷◌, Common.◌++◌, Common.length, Common.map, lemmas.List.length-map, lemmas.List.map-append}
use Rattle.rows.specs.{PlanRows.plan_rows, declared.plan.Plan.Plan}

pub plans_count : (plans : List Plan) → length (map plan_rows plans) ≡ length plans
plans_count plans = length-map plans plan_rows

pub plans_push : (plans : List Plan) (plan : Plan) → map plan_rows (plans ++ plan ∷ []) ≡ map plan_rows plans ++ plan_rows plan ∷ []
plans_push plans plan = map-append plan_rows plans (plan ∷ [])
