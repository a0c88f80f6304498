-- The graph that is kept is that of the network.
use Rattle.std.proofs.Common.{◌≡◌, ℕ, ◌<◌, true, List, [], ◌∷◌, length, map, inl, inr, refl, sym, ◌∙◌, ap, subst, arith}
use Rattle.std.proofs.{Math.Path.fun_ext, lemmas.Bool.cases_lt, lemmas.Bool.Decides.nat_tests}
use Rattle.std.proofs.lemmas.{List.get_or_past, List.Elements.All-map, List.Elements.All-weaker, List.Sums.AllPass-from_list_all, Slice.Zip.length-zip, Slice.Zip.get_or-zip}
use Rattle.std.specs.{List.list_all, List.zip, Prelude.slice_index, Prelude.slice_index_or, Prelude.All, Prelude.Contains}
use Rattle.rows.specs.{Joined.ends_of, Networks.is_link, Networks.are_measures, declared.network.LinkRow.LinkRow}
use Rattle.walks.specs.Walks.{start_of, end_of, AreWithin}
use Rattle.router.specs.{Graphs.Graph, Graphs.kept_graph, Graphs.IsAdjacency, declared.adjacency.Adjacency.TheInside.Inside, declared.star.Spoke.Spoke}

pub pair_at : (xs ys : List ℕ) (k : ℕ) → length ys ≡ length xs → slice_index_or (zip xs ys) k (0, 0) ≡ (slice_index xs k, slice_index ys k)
pair_at xs ys k same =
    elim (cases_lt k (length xs)) [
      | inl within ↦ get_or-zip xs ys k (0, 0) within (omega arith)
      | inr past ↦
          let count = length-zip xs ys in
          let x = get_or_past xs k 0 past in
          let y = get_or_past ys k 0 (omega arith) in
          get_or_past (zip xs ys) k (0, 0) (omega arith) ∙ ap (λ (n : ℕ). (n, 0)) (sym x) ∙ ap (λ (n : ℕ). (slice_index xs k, n)) (sym y)
    ]

pub start_is : (xs ys : List ℕ) → length ys ≡ length xs → slice_index xs ≡ start_of (zip xs ys)
start_is xs ys same = fun_ext (λ k. sym (ap (λ (p : ℕ × ℕ). p.0) (pair_at xs ys k same)))

pub end_is : (xs ys : List ℕ) → length ys ≡ length xs → slice_index ys ≡ end_of (zip xs ys)
end_is xs ys same = fun_ext (λ k. sym (ap (λ (p : ℕ × ℕ). p.1) (pair_at xs ys k same)))

-- the ends of links that were read one side after the other
pub zip_ends : (links : List LinkRow) → zip (map (λ (l : LinkRow). l.from) links) (map (λ (l : LinkRow). l.to) links) ≡ ends_of links
unfolding ends_of
zip_ends [] = refl
zip_ends (link ∷ links) = ap (λ (ends : List (ℕ × ℕ)). (link.from, link.to) ∷ ends) (zip_ends links)

ends_within : (nodes : ℕ) (link : LinkRow) → is_link nodes link ≡ true → (link.from < nodes) × (link.to < nodes)
unfolding is_link are_measures
ends_within nodes link sound = (grind (arith, nat_tests), grind (arith, nat_tests))

pub network_within : (nodes : ℕ) (links : List LinkRow) → list_all (is_link nodes) links ≡ true → AreWithin nodes (ends_of links)
unfolding ends_of
network_within nodes links sound =
    All-map (λ (p : ℕ × ℕ). (p.0 < nodes) × (p.1 < nodes)) (λ (l : LinkRow). (l.from, l.to)) links
    (λ k d within. ends_within nodes (slice_index_or links k d) (AllPass-from_list_all (is_link nodes) links sound k d within))

pub starts_within_nodes : (nodes : ℕ) (links : List LinkRow) (xs : List ℕ) → xs ≡ map (λ (l : LinkRow). l.from) links →
    list_all (is_link nodes) links ≡ true → All (λ node. node < nodes) xs
starts_within_nodes nodes links xs is sound =
    let P : List ℕ → Type 0 = λ ns. All (λ node. node < nodes) ns in
    subst P (sym is) (All-map (λ (n : ℕ). n < nodes) (λ (l : LinkRow). l.from) links
    (λ k d within. (ends_within nodes (slice_index_or links k d) (AllPass-from_list_all (is_link nodes) links sound k d within)).0))

pub ends_within_nodes : (nodes : ℕ) (links : List LinkRow) (xs : List ℕ) → xs ≡ map (λ (l : LinkRow). l.to) links →
    list_all (is_link nodes) links ≡ true → All (λ node. node < nodes) xs
ends_within_nodes nodes links xs is sound =
    let P : List ℕ → Type 0 = λ ns. All (λ node. node < nodes) ns in
    subst P (sym is) (All-map (λ (n : ℕ). n < nodes) (λ (l : LinkRow). l.to) links
    (λ k d within. (ends_within nodes (slice_index_or links k d) (AllPass-from_list_all (is_link nodes) links sound k d within)).1))

pub ends_in_step : (xs ys : List ℕ) → length ys ≡ length xs → length (zip xs ys) ≡ length xs
ends_in_step xs ys same = let count = length-zip xs ys in omega arith

-- both ends of a link are among the nodes
sides_within : (a : Inside) (link : ℕ) → IsAdjacency a → link < length a.from.items →
    (slice_index a.from.items link < length a.out) × (slice_index a.to.items link < length a.out)
sides_within a link kept within =
    let P : ℕ × ℕ → Type 0 = λ p. (p.0 < length a.out) × (p.1 < length a.out) in
    subst P (pair_at a.from.items a.to.items link kept.each)
    (kept.inside link (0, 0) (let count = ends_in_step a.from.items a.to.items kept.each in omega arith))

pub start_within : (a : Inside) (link : ℕ) → IsAdjacency a → link < length a.from.items → slice_index a.from.items link < length a.out
start_within a link kept within = (sides_within a link kept within).0

pub end_within : (a : Inside) (link : ℕ) → IsAdjacency a → link < length a.from.items → slice_index a.to.items link < length a.out
end_within a link kept within = (sides_within a link kept within).1

-- what is kept of a graph says where its links begin and end
module _ (a : Inside) (g : Graph) (kept : IsAdjacency a) (view : kept_graph a ≡ g) where
  link_within : (link : ℕ) → link < length g.ends → link < length a.from.items
  link_within link within =
      let same = ap (λ (h : Graph). length h.ends) view in
      let count = ends_in_step a.from.items a.to.items kept.each in
      omega arith

  pub out_each : (node : ℕ) → All (λ spoke. (spoke.link < length g.ends) × (start_of g.ends spoke.link ≡ node)
      × (spoke.node ≡ end_of g.ends spoke.link) × (spoke.node < g.nodes)) (slice_index_or a.out node [])
  out_each node =
      All-weaker (λ (s : Spoke). (s.link < length a.from.items) × (start_of (zip a.from.items a.to.items) s.link ≡ node)
      × (s.node ≡ end_of (zip a.from.items a.to.items) s.link))
      (λ (s : Spoke). (s.link < length g.ends) × (start_of g.ends s.link ≡ node) × (s.node ≡ end_of g.ends s.link) × (s.node < g.nodes))
      (λ s h.
      let count = ends_in_step a.from.items a.to.items kept.each in
      let same = ap (λ (h : Graph). length h.ends) view in
      let nodes = ap (λ (h : Graph). h.nodes) view in
      let inside = (kept.inside s.link (0, 0) (omega arith)).1 in
      let far : s.node ≡ end_of (zip a.from.items a.to.items) s.link = h.2 in (
        omega arith,
        sym (ap (λ (h : Graph). start_of h.ends s.link) view) ∙ h.1,
        h.2 ∙ ap (λ (h : Graph). end_of h.ends s.link) view,
        omega arith,
      ))
      (slice_index_or a.out node []) (kept.out.each node)

  pub out_every : (node link : ℕ) → link < length g.ends → start_of g.ends link ≡ node →
      Contains (map (λ (spoke : Spoke). spoke.link) (slice_index_or a.out node [])) link
  out_every node link within beside =
      subst (λ (n : ℕ). Contains (map (λ (spoke : Spoke). spoke.link) (slice_index_or a.out n [])) link)
      (ap (λ (h : Graph). start_of h.ends link) view ∙ beside) (kept.out.every link (link_within link within))

  pub into_each : (node : ℕ) → All (λ spoke. (spoke.link < length g.ends) × (end_of g.ends spoke.link ≡ node)
      × (spoke.node ≡ start_of g.ends spoke.link) × (spoke.node < g.nodes)) (slice_index_or a.into node [])
  into_each node =
      All-weaker (λ (s : Spoke). (s.link < length a.from.items) × (end_of (zip a.from.items a.to.items) s.link ≡ node)
      × (s.node ≡ start_of (zip a.from.items a.to.items) s.link))
      (λ (s : Spoke). (s.link < length g.ends) × (end_of g.ends s.link ≡ node) × (s.node ≡ start_of g.ends s.link) × (s.node < g.nodes))
      (λ s h.
      let count = ends_in_step a.from.items a.to.items kept.each in
      let same = ap (λ (h : Graph). length h.ends) view in
      let nodes = ap (λ (h : Graph). h.nodes) view in
      let inside = (kept.inside s.link (0, 0) (omega arith)).0 in
      let far : s.node ≡ start_of (zip a.from.items a.to.items) s.link = h.2 in (
        omega arith,
        sym (ap (λ (h : Graph). end_of h.ends s.link) view) ∙ h.1,
        h.2 ∙ ap (λ (h : Graph). start_of h.ends s.link) view,
        omega arith,
      ))
      (slice_index_or a.into node []) (kept.into.each node)

  pub into_every : (node link : ℕ) → link < length g.ends → end_of g.ends link ≡ node →
      Contains (map (λ (spoke : Spoke). spoke.link) (slice_index_or a.into node [])) link
  into_every node link within beside =
      subst (λ (n : ℕ). Contains (map (λ (spoke : Spoke). spoke.link) (slice_index_or a.into n [])) link)
      (ap (λ (h : Graph). end_of h.ends link) view ∙ beside) (kept.into.every link (link_within link within))
