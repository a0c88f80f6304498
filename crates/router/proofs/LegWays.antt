-- What a search finds is the route of the definition.
use Rattle.std.proofs.Common.{◌≡◌, ℕ, ◌<◌, Bool, cond, List, [], ◌∷◌, ◌++◌, length, Option, None, Some, refl, sym, ◌∙◌, ap}
use Rattle.std.{proofs.lemmas.Bool.eq-eqb, proofs.lemmas.Bool.ne_eqb, proofs.lemmas.List.length-map, specs.Option.option_map, specs.Prelude.MatchOption}
use Rattle.rows.specs.{Joined.ends_of, Joined.ends_of_link, declared.network.LinkRow.LinkRow}
use Rattle.travel_times.{proofs.Arriving.arrivals_are_fifo, specs.Times.arrivals}
use Rattle.walks.{proofs.Least.least_or_none, specs.Arrivals.Arrivals}
use Rattle.walks.specs.Walks.{Ends, start_of, end_of, AreWithin, NoWalk, IsLeast}
use Rattle.router.specs.{Graphs.Graph, Routes.way_to, Routes.leg_route, Routes.allowed, Ways.Query, Ways.route_of, Ways.IsLeastWay}

none_by : (ends : Ends) (arrive : Arrivals) (from second to : ℕ) (label : Option ℕ) (way : List ℕ)
    → MatchOption label (NoWalk ends from to) (IsLeast ends arrive from second to) → NoWalk ends from to
    → option_map (λ (at : ℕ). way) label ≡ None
none_by ends arrive from second to None way least none = refl
none_by ends arrive from second to (Some at) way least none = absurd (none least.reached.0 least.reached.1)

-- where no walk leads to a node, there is no route to it
pub no_way : (query : Query) (to : ℕ) → AreWithin query.graph.nodes query.graph.ends → query.from < query.graph.nodes
    → NoWalk query.graph.ends query.from to → way_to query.graph (arrivals query.times) query.from query.second to ≡ None
unfolding way_to
no_way query to inside within none =
    none_by query.graph.ends (arrivals query.times) query.from query.second to _ (route_of query to)
    (least_or_none query.graph.nodes query.graph.ends (arrivals query.times) (arrivals_are_fifo query.times) inside query.from query.second
    within to)
    none

-- the chosen route is the one of the definition
pub least_way : (query : Query) (to : ℕ) (links : List ℕ) (at : ℕ) → IsLeastWay query to links at
    → way_to query.graph (arrivals query.times) query.from query.second to ≡ Some links
unfolding way_to
least_way query to links at way = rw way.label (ap Some (sym way.chosen))

module _ (graph : Graph) (arrive : Arrivals) (second here there : ℕ) where
  -- a leg to the link on which it begins
  pub route_here : here ≡ there → allowed (leg_route graph arrive second here there) ≡ Some (here ∷ [])
  unfolding leg_route
  route_here same = ap (λ (b : Bool). allowed (cond b (Some (here ∷ []))
      (option_map (λ way. here ∷ way ++ there ∷ []) (way_to graph arrive (end_of graph.ends here) second (start_of graph.ends there)))))
      (eq-eqb here there same)

  -- a leg to another link
  pub route_there : (here ≡ there → ⊥) → leg_route graph arrive second here there
      ≡ option_map (λ way. here ∷ way ++ there ∷ []) (way_to graph arrive (end_of graph.ends here) second (start_of graph.ends there))
  unfolding leg_route
  route_there apart = ap (λ (b : Bool). cond b (Some (here ∷ []))
      (option_map (λ way. here ∷ way ++ there ∷ []) (way_to graph arrive (end_of graph.ends here) second (start_of graph.ends there))))
      (ne_eqb here there apart)

  pub no_route : (here ≡ there → ⊥) → way_to graph arrive (end_of graph.ends here) second (start_of graph.ends there) ≡ None
      → allowed (leg_route graph arrive second here there) ≡ None
  no_route apart none = ap allowed (route_there apart ∙ ap (option_map (λ way. here ∷ way ++ there ∷ [])) none)

  pub some_route : (way : List ℕ) → (here ≡ there → ⊥)
      → way_to graph arrive (end_of graph.ends here) second (start_of graph.ends there) ≡ Some way
      → allowed (leg_route graph arrive second here there) ≡ allowed (Some (here ∷ way ++ there ∷ []))
  some_route way apart some = ap allowed (route_there apart ∙ ap (option_map (λ way. here ∷ way ++ there ∷ [])) some)

-- as many links have ends as there are
pub ends_count : (links : List LinkRow) → length (ends_of links) ≡ length links
unfolding ends_of
ends_count links = length-map links ends_of_link
