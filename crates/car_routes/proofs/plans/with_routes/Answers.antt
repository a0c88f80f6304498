use Rattle.std.proofs.Common.{◌≡◌, ℕ, length, true, sym, subst}
use Rattle.rows.specs.PlanRows.{all_plan_rows}
use Rattle.car_routes.{proofs.Routing.links_counted, proofs.Routing.times_counted, proofs.Routing.routed_is, specs.Plans.all_are_on}
use Rattle.car_routes.proofs.plans.with_routes.Goals as goal

pub routed_by-requires-clause-on : goal.routed_by-requires-clause-on
routed_by-requires-clause-on g c κs within =
    subst (λ (n : ℕ). all_are_on n (all_plan_rows c.args.plans) ≡ true)
    (sym (links_counted (length c.args.network.now.nodes) c.args.network.now.links c.in_ok-adjacency.adjacency c.in_ok-adjacency.ensures)) c.requires.on

pub routed_by-requires-clause-times : goal.routed_by-requires-clause-times
routed_by-requires-clause-times g c κs within =
    times_counted (length c.args.network.now.nodes) c.args.network.now.links c.in_ok-adjacency.adjacency c.in_ok-times.times
    c.in_ok-adjacency.ensures c.in_ok-times.ensures

pub returns : goal.returns
returns g c =
    routed_is (length c.args.network.now.nodes) c.args.network.now.links c.in_ok-adjacency.adjacency c.in_ok-times.times (all_plan_rows c.args.plans)
    (all_plan_rows c.in_ok-routed.routed) c.in_ok-adjacency.ensures c.in_ok-times.ensures c.in_ok-routed.ensures
