use Rattle.std.proofs.Common.{◌≡◌}
use Rattle.rows.specs.PlanRows.{plan_rows}
use Rattle.car_routes.proofs.Routing.{plan_step}
use Rattle.car_routes.proofs.plans.routed_plan.Goals as goal

pub returns-clause-plan : goal.returns-clause-plan
returns-clause-plan c =
    let acts : c.deref.result.now ≡ c.args.plan.now.acts = cc in
    let legs : c.deref-2.result.now ≡ c.args.plan.now.legs = cc in
    λ arrive rest alike next.
    plan_step c.args.adjacency.now arrive c.args.found.now c.routed_legs.new.found (plan_rows c.args.plan.now) c.deref.result.now c.deref-2.result.now
    c.in_ok-acts.acts c.in_ok-rows.rows.items rest acts legs c.in_ok-acts.ensures (λ wanted. c.in_ok-rows.ensures.legs arrive rest alike wanted) next
