use Rattle.std.proofs.Common.{map, ◌∙◌}
use Rattle.rows.specs.PlanRows.{plan_rows}
use Rattle.car_routes.proofs.{Routing.at_mapped, Wanting.on_way_start, Wanting.on_way_step, Wanting.on_way_end, Wanting.by_all_step, Wanting.by_all_past}
use Rattle.car_routes.specs.Plans.{own_are_on}
use Rattle.car_routes.proofs.wanted.want_all.Goals as goal

pub loop-own-init : goal.loop-own-init
loop-own-init c = on_way_start _ _ _

pub want_own-requires-clause-on : goal.want_own-requires-clause-on
want_own-requires-clause-on c =
    at_mapped (map plan_rows) (own_are_on _) c.args.plans.now c.loop-own.own-index c.own-item.result c.loop-own-test.true c.own-item.is c.requires.on

pub want_own-requires-clause-nodes : goal.want_own-requires-clause-nodes
want_own-requires-clause-nodes c = c.loop-own.invariant.count ∙ c.requires.nodes

pub loop-own-preserved : goal.loop-own-preserved
loop-own-preserved c =
    on_way_step _ _ _ _ _ _ _ _ c.loop-own.invariant
    (by_all_step c.args.adjacency.now.ends c.args.plans.now c.loop-own.own-index c.own-item.result c.loop-own-test.true c.own-item.is)
    c.in_ok-want_own.ensures

pub returns : goal.returns
returns c =
    on_way_end _ _ _ _ _ c.loop-own.invariant (by_all_past c.args.adjacency.now.ends c.args.plans.now c.loop-own.own-index c.loop-own-test.false)
