use Rattle.std.proofs.Common.{◌≡◌, None, Some, sym, ◌∙◌}
use Rattle.travel_times.specs.Times.{arrivals}
use Rattle.walks.specs.Walks.{start_of, end_of}
use Rattle.router.{proofs.LegWays.route_here, proofs.LegWays.no_route, proofs.LegWays.some_route, specs.Routes.way_to}
use Rattle.router.proofs.routes.leg_route.Goals as goal

pub returns-then-here-there-clause-route : goal.returns-then-here-there-clause-route
returns-then-here-there-clause-route c =
    let is = route_here c.args.adjacency.now (arrivals c.args.times.now) c.args.second c.args.here c.args.there c.if-here-there.true in
    let e = c.in_ok-route.ensures in
    cc

pub returns-in_default-clause-route : goal.returns-in_default-clause-route
returns-in_default-clause-route c =
    let e = c.in_ok-way.ensures in
    let none : way_to c.args.adjacency.now (arrivals c.args.times.now) (end_of c.args.adjacency.now.ends c.args.here) c.args.second (start_of c.args.adjacency.now.ends c.args.there) ≡ None = cc in
    sym (no_route c.args.adjacency.now (arrivals c.args.times.now) c.args.second c.args.here c.args.there c.if-here-there.false none)

pub returns-clause-route : goal.returns-clause-route
returns-clause-route c =
    let e = c.in_ok-way.ensures in
    let some : way_to c.args.adjacency.now (arrivals c.args.times.now) (end_of c.args.adjacency.now.ends c.args.here) c.args.second (start_of c.args.adjacency.now.ends c.args.there) ≡ Some c.in-Some.way = cc in
    let is = some_route c.args.adjacency.now (arrivals c.args.times.now) c.args.second c.args.here c.args.there c.in-Some.way c.if-here-there.false some in
    c.in_ok-route-2.ensures.route ∙ sym is
