use Rattle.std.proofs.{Common.◌∙◌, Common.◌∷◌, Common.[], Common.List, Common.map, Common.ap, lemmas.List.map-append}
use Rattle.rows.specs.{PlanRows.plan_rows, declared.plan.Plan.Plan}
use Rattle.router.specs.Legs.{are_on}
use Rattle.car_routes.proofs.Routing.{go_step, go_end, made_more, made_all, at_mapped}
use Rattle.car_routes.{proofs.Wanting.by_step, proofs.Wanting.by_past, specs.Plans.routed_plan}
use Rattle.car_routes.proofs.plans.routed_plans.Goals as goal

pub routed_plan-requires-clause-on : goal.routed_plan-requires-clause-on
routed_plan-requires-clause-on c =
    at_mapped plan_rows (λ plan. are_on _ plan.acts) c.args.plans.now c.loop-plan.plan-index c.plan-item.result c.loop-plan-test.true c.plan-item.is
    c.requires.on

pub routed_plan-requires-clause-nodes : goal.routed_plan-requires-clause-nodes
routed_plan-requires-clause-nodes c = c.loop-plan.invariant.nodes ∙ c.requires.nodes

pub loop-plan-preserved : goal.loop-plan-preserved
loop-plan-preserved c = record {
  plans = λ arrive rest alike next.
      go_step c.args.adjacency.now arrive c.loop-plan.found c.routed_plan.new.found _ _ _ rest (map plan_rows c.loop-plan.rows.items) _ _ _ _ _ _
      (by_step c.args.adjacency.now.ends c.args.plans.now c.loop-plan.plan-index c.plan-item.result c.loop-plan-test.true c.plan-item.is)
      (made_more plan_rows (routed_plan c.args.adjacency.now arrive) c.args.plans.now c.loop-plan.plan-index c.plan-item.result
      c.loop-plan-test.true c.plan-item.is)
      (c.loop-plan.invariant.plans arrive rest alike next)
      (λ more wanted. c.in_ok-routed.ensures.plan arrive more alike wanted)
      (ap (λ (ps : List Plan). map plan_rows ps) c.in_ok-push.ensures.items
      ∙ map-append plan_rows c.loop-plan.rows.items (c.in_ok-routed.routed ∷ []));
  nodes = c.in_ok-routed.ensures.count ∙ c.loop-plan.invariant.nodes;
}

pub returns-clause-plans : goal.returns-clause-plans
returns-clause-plans c = λ arrive rest alike next.
    go_end c.args.adjacency.now arrive c.loop-plan.found _ rest (map plan_rows c.loop-plan.rows.items) _ _
    (by_past c.args.adjacency.now.ends c.args.plans.now c.loop-plan.plan-index c.loop-plan-test.false)
    (made_all plan_rows (routed_plan c.args.adjacency.now arrive) c.args.plans.now c.loop-plan.plan-index c.loop-plan-test.false)
    (c.loop-plan.invariant.plans arrive rest alike next)
