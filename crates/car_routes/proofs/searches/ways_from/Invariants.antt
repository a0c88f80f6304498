use Rattle.std.proofs.Common.{◌≡◌, take}
use Rattle.travel_times.specs.Times.{arrivals}
use Rattle.car_routes.specs.Found.{ways_from}
use Rattle.car_routes.proofs.searches.ways_from.Given as goal

-- the search is still that from the node, and the routes to the targets so far are found
abbrev pub invariant-loop-place : goal.invariant-loop-place
invariant-loop-place l = record {
  search : l.search ≡ record { graph = l.adjacency; times = l.times; from = l.from; second = 0 };
  ways : l.rows.items ≡ ways_from l.adjacency (arrivals l.times) l.from (take l.place l.targets);
}
