use Rattle.std.proofs.Common.{◌≡◌, ◌∙◌, ◌++◌, List, map, sym, subst}
use Rattle.rows.specs.{PlanRows.plan_rows, declared.plan.Plan.Plan}
use Rattle.car_routes.specs.{Found.AreNext, Plans.routed_plan, Wanted.wanted_by}
use Rattle.car_routes.proofs.plans.routed_own.Goals as goal

pub returns-clause-plans : goal.returns-clause-plans
returns-clause-plans c = λ arrive rest alike next.
    let own : c.deref.result.now ≡ c.args.own.now = c.deref.ensures.value ∙ c.own.view_is in
    subst (λ (plans : List Plan). (map plan_rows c.in_ok-rows.rows.items ≡ map (routed_plan c.args.adjacency.now arrive) (map plan_rows plans))
    × AreNext c.args.adjacency.now arrive c.routed_plans.new.found rest) own
    (c.in_ok-rows.ensures.plans arrive rest alike
    (subst (λ (plans : List Plan). AreNext c.args.adjacency.now arrive c.args.found.now
    (wanted_by c.args.adjacency.now.ends (map plan_rows plans) ++ rest)) (sym own) next))
