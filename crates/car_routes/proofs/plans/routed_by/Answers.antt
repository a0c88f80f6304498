use Rattle.std.proofs.Common.{◌∙◌, List, subst}
use Rattle.rows.specs.{PlanRows.all_plan_rows, declared.plan.Plan.Plan}
use Rattle.travel_times.specs.Times.{arrivals}
use Rattle.car_routes.specs.{Found.AreNext, Wanted.wanted_by_all}
use Rattle.car_routes.proofs.plans.routed_by.Goals as goal

pub returns : goal.returns
returns g c = λ alike.
    c.in_ok-routed.ensures (arrivals c.args.times.now) alike
    (subst (λ (plans : List (List Plan)). AreNext c.args.adjacency.now (arrivals c.args.times.now) c.in_ok-found.found
    (wanted_by_all c.args.adjacency.now.ends (all_plan_rows plans))) (c.deref.ensures.value ∙ c.plans.view_is) c.in_ok-found.ensures.next)
