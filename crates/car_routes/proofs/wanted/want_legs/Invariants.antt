use Rattle.std.proofs.Common.{drop}
use Rattle.car_routes.{proofs.Wanting.IsOnWay, specs.Wanted.wanted_in}
use Rattle.car_routes.proofs.wanted.want_legs.Given as goal

-- what the legs from this place on want is still left
abbrev pub invariant-loop-place : goal.invariant-loop-place
invariant-loop-place l = IsOnWay l.adjacency.nodes (wanted_in l.adjacency.ends (drop l.place l.acts) (drop l.place l.legs))
    (wanted_in l.adjacency.ends l.acts l.legs) l.initial.targets l.targets
