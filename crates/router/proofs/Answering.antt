-- What a search answers: the way to a settled node, or that there is none, and labels that are a certificate.
use Rattle.std.proofs.Common.{◌≡◌, ℕ, ◌^◌, ◌<◌, ◌≤◌, List, Option, None, Some, refl, sym, ◌∙◌, ap, subst}
use Rattle.std.specs.Prelude.{IfSome}
use Rattle.limits.specs.declared.TheConstants.{MAX_NODES}
use Rattle.travel_times.{proofs.Arriving.arrivals_are_fifo, specs.Times.arrivals}
use Rattle.walks.proofs.{Followed.chosen_is_least, Least.none_is_no_walk, Least.label_is_least, Least.least_start, Least.least_kept, Rounds.length-after}
use Rattle.walks.specs.{Arrivals.Arrivals, Arrivals.IsFifo, Certificates.AreSmall, Certificates.IsCertificate, Chosen.followed, Chosen.chosen_route}
use Rattle.walks.specs.{Rounds.Labels, Rounds.label_at, Rounds.least_labels, Walks.Ends, Walks.AreWithin, Walks.IsWalk, Walks.NoWalk, Walks.arrival}
use Rattle.router.{proofs.Searching.look_small, specs.Frontiers.IsFrontier}
use Rattle.router.specs.{Frontiers.IsSettledAt, Ways.Query, Ways.least_of, Ways.route_of, Ways.IsLeastWay, declared.frontier.Frontier.Frontier}

-- the labels of a frontier are small
pub small_labels : (nodes : ℕ) (ends : Ends) (arrive : Arrivals) (frontier : Frontier) (open_links : List ℕ) → IsFifo arrive →
    nodes ≤ MAX_NODES → IsFrontier nodes ends arrive frontier open_links → AreSmall frontier.labels.items
small_labels nodes ends arrive frontier open_links fifo few kept node = by_label (label_at frontier.labels.items node) refl
  where
    by_label : (o : Option ℕ) → label_at frontier.labels.items node ≡ o → IfSome o (λ label. label < 2 ^ 60)
    by_label None is = tt
    by_label (Some left) is = look_small nodes ends arrive frontier open_links node left fifo few kept is

module _ (query : Query) (frontier : Frontier) (inside : AreWithin query.graph.nodes query.graph.ends)
    (within : query.from < query.graph.nodes) (from : frontier.from ≡ query.from) (second : frontier.second ≡ query.second) (to : ℕ)
    (settled : IsSettledAt query.graph.nodes query.graph.ends (arrivals query.times) frontier to) where
  asked : least_labels query.graph.nodes query.graph.ends (arrivals query.times) frontier.from frontier.second ≡ least_of query
  asked =
      ap (λ (f : ℕ). least_labels query.graph.nodes query.graph.ends (arrivals query.times) f frontier.second) from
      ∙ ap (λ (s : ℕ). least_labels query.graph.nodes query.graph.ends (arrivals query.times) query.from s) second

  label_found : (label : Option ℕ) → label_at frontier.labels.items to ≡ label → label_at (least_of query) to ≡ label
  label_found label is = ap (λ (ls : Labels). label_at ls to) (sym asked) ∙ sym settled.label ∙ is

  -- the way to a node with a label
  pub way_is : (links : List ℕ) (at : ℕ) → label_at frontier.labels.items to ≡ Some at
      → links ≡ followed query.graph.ends (arrivals query.times) frontier.labels.items frontier.from query.graph.nodes to →
      IsLeastWay query to links at
  way_is links at is back =
      let fifo = arrivals_are_fifo query.times in
      let label = label_found (Some at) is in
      let chosen : links ≡ route_of query to = back ∙ settled.route at is
      ∙ ap (λ (f : ℕ). chosen_route query.graph.nodes query.graph.ends (arrivals query.times)
      (least_labels query.graph.nodes query.graph.ends (arrivals query.times) frontier.from frontier.second) f to) from
      ∙ ap (λ (ls : Labels). chosen_route query.graph.nodes query.graph.ends (arrivals query.times) ls query.from to) asked in
      let walk = chosen_is_least query.graph.nodes query.graph.ends (arrivals query.times) fifo inside query.from query.second within to at
      label in
      let P : List ℕ → Type 0 = λ ls. IsWalk query.graph.ends query.from ls to in
      record {
        chosen = chosen;
        label = label;
        walk = subst P (sym chosen) walk.0;
        arrives = ap (arrival (arrivals query.times) query.second) chosen ∙ walk.1;
        least = label_is_least query.graph.nodes query.graph.ends (arrivals query.times) fifo inside query.from query.second within to at
            label;
      }

  -- no walk leads to a node without a label
  pub no_way_is : label_at frontier.labels.items to ≡ None → NoWalk query.graph.ends query.from to
  no_way_is is =
      none_is_no_walk query.graph.nodes query.graph.ends (arrivals query.times) (arrivals_are_fifo query.times) inside query.from
      query.second within to (label_found None is)

-- the least arrivals are a certificate
pub is_certificate : (query : Query) (labels : Labels) → AreWithin query.graph.nodes query.graph.ends → query.from < query.graph.nodes →
    labels ≡ least_of query → AreSmall labels →
    IsCertificate query.graph.nodes query.graph.ends (arrivals query.times) query.from query.second labels
is_certificate query labels inside within are small =
    let P : Labels → Type 0 = λ ls.
    AreSmall ls → IsCertificate query.graph.nodes query.graph.ends (arrivals query.times) query.from query.second ls in
    subst P (sym are) (λ few. record {
      each_node = length-after query.graph.nodes query.graph.ends (arrivals query.times) query.from query.second query.graph.nodes;
      start = least_start query.graph.nodes query.graph.ends (arrivals query.times) (arrivals_are_fifo query.times) inside query.from
          query.second within;
      small = few;
      kept = least_kept query.graph.nodes query.graph.ends (arrivals query.times) (arrivals_are_fifo query.times) inside query.from
          query.second within;
    }) small
