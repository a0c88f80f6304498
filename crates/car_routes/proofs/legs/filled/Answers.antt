use Rattle.std.{proofs.Common.◌≡◌, proofs.Common.true, proofs.Common.length, proofs.Common.rules, proofs.Common.arith, specs.Prelude.nat_eq}
use Rattle.car_routes.proofs.Finding.{filled_here, filled_there}
use Rattle.car_routes.proofs.legs.filled.Goals as goal

pub returns-then-here-there-clause-route : goal.returns-then-here-there-clause-route
returns-then-here-there-clause-route c =
    let none : nat_eq (length c.args.route.now) 0 ≡ true = first_of (cc, search rules, grind arith) in
    λ arrive rest alike next.
    filled_here c.args.adjacency.now arrive c.args.here c.args.there c.args.route.now c.in_ok-own.own c.args.found.now rest none
    c.if-here-there.true c.in_ok-own.ensures next

pub returns-clause-route : goal.returns-clause-route
returns-clause-route c =
    let none : nat_eq (length c.args.route.now) 0 ≡ true = first_of (cc, search rules, grind arith) in
    λ arrive rest alike next.
    filled_there c.args.adjacency.now arrive c.args.here c.args.there c.args.route.now c.route_or_none.result c.in_ok-next.next c.args.found.now
    c.next_route.new.found rest alike none c.if-here-there.false c.route_or_none.ensures (λ wanted. c.in_ok-next.ensures.route arrive rest wanted)
    next
