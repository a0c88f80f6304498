use Rattle.std.proofs.Common.{None, Some, refl, arith}
use Rattle.car_routes.proofs.Finding.{route_taken}
use Rattle.car_routes.proofs.legs.next_route.Goals as goal

pub returns-in_ok-route-in-Some-clause-route : goal.returns-in_ok-route-in-Some-clause-route
returns-in_ok-route-in-Some-clause-route c = λ arrive rest.
    route_taken c.args.adjacency.now arrive c.args.found.now c.take_next.new.found c.args.here c.args.there c.end-from.result (Some c.in-Some.way)
    c.in_ok-route-in-Some.route rest c.end-from.ensures.node (omega (arith, c.requires.nodes, c.end-from.ensures.within)) c.in-Some.ensures.next
    c.in-Some.ensures.others c.in_ok-route-in-Some.ensures.route

pub returns-in-None-clause-route : goal.returns-in-None-clause-route
returns-in-None-clause-route c = λ arrive rest.
    route_taken c.args.adjacency.now arrive c.args.found.now c.take_next.new.found c.args.here c.args.there c.end-from.result None
    None rest c.end-from.ensures.node (omega (arith, c.requires.nodes, c.end-from.ensures.within)) c.in-None.ensures.next
    c.in-None.ensures.others refl
