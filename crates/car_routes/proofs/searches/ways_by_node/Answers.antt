use Rattle.std.proofs.Common.{List, ap, ◌∙◌, length}
use Rattle.std.specs.List.{flat_map}
use Rattle.travel_times.specs.Times.{arrivals}
use Rattle.car_routes.{proofs.Finding.WayList, proofs.Parts.parts_all, specs.Found.ways_from, specs.Wanted.row_of}
use Rattle.car_routes.proofs.searches.ways_by_node.Goals as goal

pub returns : goal.returns
returns g c =
    c.in_ok-found.ensures ∙ ap (flat_map (λ (part : List WayList). part)) c.in_ok-parts.ensures
    ∙ parts_all (λ node. ways_from c.args.adjacency.now (arrivals c.args.times.now) node (row_of c.args.targets.now node))
    (length c.args.targets.now)
