use Rattle.std.proofs.Common.{◌∙◌}
use Rattle.travel_times.specs.Times.{arrivals}
use Rattle.car_routes.proofs.Routing.{ways_ranged, ways_counted}
use Rattle.car_routes.proofs.searches.all_ways.Goals as goal

pub returns-clause-count : goal.returns-clause-count
returns-clause-count g c =
    ways_counted c.args.adjacency.now (arrivals c.args.times.now) c.args.targets.now c.in_ok-rows.rows.items c.in_ok-rows.ensures ∙ c.requires.nodes

pub returns-clause-ways : goal.returns-clause-ways
returns-clause-ways g c = ways_ranged c.args.adjacency.now (arrivals c.args.times.now) c.args.targets.now c.in_ok-rows.rows.items c.in_ok-rows.ensures
