use Rattle.std.proofs.Common.{◌∙◌}
use Rattle.rows.specs.PlanRows.{plan_rows}
use Rattle.router.specs.Legs.{are_on}
use Rattle.car_routes.proofs.{Routing.at_mapped, Wanting.on_way_start, Wanting.on_way_step, Wanting.on_way_end, Wanting.by_step, Wanting.by_past}
use Rattle.car_routes.proofs.wanted.want_plans.Goals as goal

pub loop-plan-init : goal.loop-plan-init
loop-plan-init c = on_way_start _ _ _

pub want_plan-requires-clause-on : goal.want_plan-requires-clause-on
want_plan-requires-clause-on c =
    at_mapped plan_rows (λ plan. are_on _ plan.acts) c.args.plans.now c.loop-plan.plan-index c.plan-item.result c.loop-plan-test.true c.plan-item.is
    c.requires.on

pub want_plan-requires-clause-nodes : goal.want_plan-requires-clause-nodes
want_plan-requires-clause-nodes c = c.loop-plan.invariant.count ∙ c.requires.nodes

pub loop-plan-preserved : goal.loop-plan-preserved
loop-plan-preserved c =
    on_way_step _ _ _ _ _ _ _ _ c.loop-plan.invariant
    (by_step c.args.adjacency.now.ends c.args.plans.now c.loop-plan.plan-index c.plan-item.result c.loop-plan-test.true c.plan-item.is)
    c.in_ok-want_plan.ensures

pub returns : goal.returns
returns c = on_way_end _ _ _ _ _ c.loop-plan.invariant (by_past c.args.adjacency.now.ends c.args.plans.now c.loop-plan.plan-index c.loop-plan-test.false)
