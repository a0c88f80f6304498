use Rattle.std.proofs.Common.{◌≡◌, ◌-◌}
use Rattle.std.specs.Prelude.{IfSome}
use Rattle.travel_times.specs.Times.{arrivals}
use Rattle.car_routes.specs.Found.{ways_by, IsOn}
use Rattle.car_routes.proofs.searches.ways_of_part.Given as goal

-- what search there is is on the graph, and the routes from the nodes so far are found
abbrev pub invariant-loop-node : goal.invariant-loop-node
invariant-loop-node l = record {
  search : IfSome l.search (IsOn l.adjacency l.times);
  ways : l.rows.items ≡ ways_by l.adjacency (arrivals l.times) l.targets l.first (l.node - l.first);
}
