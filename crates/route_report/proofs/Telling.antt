-- What is told of a route that was found, and where there is none.
use Rattle.std.proofs.Common.{◌≡◌, ◌∙◌, ◌<◌, ℕ, true, List, [], length, Option, None, Some, sym, ap, subst}
use Rattle.std.{proofs.lemmas.List.length-map, specs.List.list_all, specs.Option.option_map, specs.Prelude.nat_lt}
use Rattle.rows.specs.{Joined.ends_of, Joined.ends_of_link, declared.network.Network.Network}
use Rattle.travel_times.specs.Times.{LinkProfile, free_times}
use Rattle.walks.specs.Walks.{AreWithin, IsWalk, NoWalk}
use Rattle.router.{proofs.Graphs.network_within, specs.Ways.Query, specs.Ways.IsLeastWay, specs.Ways.least_of, specs.Ways.route_of}
use Rattle.route_report.proofs.{LabelLines.walk_links, Reports.walk_between}
use Rattle.route_report.specs.Report.{RoadMap, map_of, search_on, route_lines, text_of}

-- the search by such times on so many nodes
abbrev by : RoadMap → ℕ → List LinkProfile → ℕ → ℕ → Query
by M nodes times from second = record { graph = record { nodes = nodes; ends = ends_of M.links }; times = times; from = from; second = second }

-- the lines of the way that was found are those of the report
pub text_told : (M : RoadMap) (nodes : ℕ) (times : List LinkProfile) (from second to : ℕ) (links : List ℕ) (at : ℕ) (labels : List (Option ℕ))
    (lines : List ℕ) → times ≡ free_times M.links → nodes ≡ length M.node_names → IsLeastWay (by M nodes times from second) to links at
    → labels ≡ least_of (by M nodes times from second) → lines ≡ route_lines M links at labels
    → Some lines ≡ text_of M (search_on M from second) to
text_told M nodes times from second to links at labels lines free each way least told =
    let query : Query = search_on M from second in
    let way_is : IsLeastWay query to links at =
    subst (λ (n : ℕ). IsLeastWay (by M n (free_times M.links) from second) to links at) each
    (subst (λ (t : List LinkProfile). IsLeastWay (by M nodes t from second) to links at) free way) in
    let labels_are : labels ≡ least_of query =
    subst (λ (n : ℕ). labels ≡ least_of (by M n (free_times M.links) from second)) each
    (subst (λ (t : List LinkProfile). labels ≡ least_of (by M nodes t from second)) free least) in
    let lines_are : lines ≡ route_lines M (route_of query to) at (least_of query) =
    told ∙ ap (λ (l : List ℕ). route_lines M l at labels) way_is.chosen
    ∙ ap (λ (l : List (Option ℕ)). route_lines M (route_of query to) at l) labels_are in
    ap (λ (l : List ℕ). Some l) lines_are
    ∙ sym (ap (λ (o : Option ℕ). option_map (λ at. route_lines M (route_of query to) at (least_of query)) o) way_is.label)

-- every link of a network begins and ends at a node that has a name
pub named_within : (network : Network) → AreWithin (length network.node_names) (ends_of network.links)
named_within network =
    subst (λ (n : ℕ). AreWithin n (ends_of network.links)) (sym network.each_node)
    (network_within (length network.nodes) network.links network.sound)

-- where no walk leads to the node, no route is told
pub none_told : (network : Network) (from second to : ℕ) → from < length network.nodes → NoWalk (ends_of network.links) from to
    → None ≡ text_of (map_of network) (search_on (map_of network) from second) to
none_told network from second to less none =
    sym (walk_between (map_of network) [] [] second (named_within network) from to
    (subst (λ (n : ℕ). from < n) (sym network.each_node) less) none)

-- the links of a walk have names
pub links_named : (network : Network) (from to : ℕ) (links : List ℕ) → IsWalk (ends_of network.links) from links to
    → list_all (λ link. nat_lt link (length network.link_names)) links ≡ true
unfolding ends_of
links_named network from to links walk =
    subst (λ (n : ℕ). list_all (λ (link : ℕ). nat_lt link n) links ≡ true)
    (length-map network.links ends_of_link ∙ sym network.each_link) (walk_links (ends_of network.links) from to links walk)
