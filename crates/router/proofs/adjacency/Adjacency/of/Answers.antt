use Rattle.std.proofs.Common.{arith, ◌≡◌, ◌<◌, ℕ, List, length, map, ap, sym, ◌∙◌, subst}
use Rattle.std.{proofs.lemmas.List.length-map, specs.List.zip, specs.Prelude.All, specs.Prelude.slice_index}
use Rattle.rows.specs.{Joined.ends_of, declared.network.LinkRow.LinkRow}
use Rattle.walks.specs.Walks.{AreWithin}
use Rattle.router.proofs.Stars.{beside_same}
use Rattle.router.proofs.Graphs.{start_is, end_is, zip_ends, network_within, starts_within_nodes, ends_within_nodes}
use Rattle.router.specs.{Graphs.Graph}
use Rattle.router.proofs.adjacency.Adjacency.of.Goals as goal

pub star_beside-requires-clause-within : goal.star_beside-requires-clause-within
star_beside-requires-clause-within c =
    let P : ℕ → Type 0 = λ n. All (λ node. node < n) c.deref.result.now in
    subst P (sym c.len-nodes.ensures)
    (starts_within_nodes (length c.args.network.now.nodes) c.args.network.now.links c.deref.result.now
    (c.deref.ensures.value ∙ c.in_ok-from.ensures) c.args.network.now.sound)

pub star_beside-requires-clause-each : goal.star_beside-requires-clause-each
star_beside-requires-clause-each c =
    let links = c.args.network.now.links in
    let from = ap (λ (xs : List ℕ). length xs) (c.deref.ensures.value ∙ c.in_ok-from.ensures) ∙ length-map links (λ (l : LinkRow). l.from) in
    let to = ap (λ (xs : List ℕ). length xs) (c.deref-2.ensures.value ∙ c.in_ok-to.ensures) ∙ length-map links (λ (l : LinkRow). l.to) in
    to ∙ sym from

pub star_beside-requires-2-clause-within : goal.star_beside-requires-2-clause-within
star_beside-requires-2-clause-within c =
    let P : ℕ → Type 0 = λ n. All (λ node. node < n) c.deref-3.result.now in
    subst P (sym c.len-nodes.ensures)
    (ends_within_nodes (length c.args.network.now.nodes) c.args.network.now.links c.deref-3.result.now
    (c.deref-3.ensures.value ∙ c.in_ok-to.ensures) c.args.network.now.sound)

pub star_beside-requires-2-clause-each : goal.star_beside-requires-2-clause-each
star_beside-requires-2-clause-each c =
    let links = c.args.network.now.links in
    let to = ap (λ (xs : List ℕ). length xs) (c.deref-3.ensures.value ∙ c.in_ok-to.ensures) ∙ length-map links (λ (l : LinkRow). l.to) in
    let from = ap (λ (xs : List ℕ). length xs) (c.deref-4.ensures.value ∙ c.in_ok-from.ensures) ∙ length-map links (λ (l : LinkRow). l.from) in
    from ∙ sym to

pub invariant_of-result : goal.invariant_of-result
invariant_of-result c =
    let links = c.args.network.now.links in
    let from : List ℕ = c.in_ok-from.from.items in
    let to : List ℕ = c.in_ok-to.to.items in
    let from_is : from ≡ map (λ (l : LinkRow). l.from) links = c.in_ok-from.ensures in
    let to_is : to ≡ map (λ (l : LinkRow). l.to) links = c.in_ok-to.ensures in
    let count_from = ap (λ (xs : List ℕ). length xs) from_is ∙ length-map links (λ (l : LinkRow). l.from) in
    let count_to = ap (λ (xs : List ℕ). length xs) to_is ∙ length-map links (λ (l : LinkRow). l.to) in
    let each : length to ≡ length from = count_to ∙ sym count_from in
    let nodes : length c.in_ok-out.out ≡ length c.args.network.now.nodes = c.in_ok-out.ensures.count ∙ c.len-nodes.ensures in
    let ends : zip from to ≡ ends_of links = ap (λ (xs : List ℕ). zip xs to) from_is ∙ ap
    (λ (ys : List ℕ). zip (map (λ (l : LinkRow). l.from) links) ys) to_is ∙ zip_ends links in
    let P : List (ℕ × ℕ) → Type 0 = λ es. AreWithin (length c.in_ok-out.out) es in
    let Q : ℕ → Type 0 = λ n. AreWithin n (ends_of links) in
    record {
      few = let most = c.args.network.now.few_nodes in omega arith;
      each = each;
      same = c.in_ok-into.ensures.count ∙ sym c.in_ok-out.ensures.count;
      inside = subst P (sym ends) (subst Q (sym nodes) (network_within (length c.args.network.now.nodes) links c.args.network.now.sound));
      out = beside_same _ _ _ _ _ _ c.in_ok-out.out (ap slice_index c.deref.ensures.value ∙ start_is from to each)
          (ap slice_index c.deref-2.ensures.value ∙ end_is from to each) (ap (λ (xs : List ℕ). length xs) c.deref.ensures.value)
          c.in_ok-out.ensures.lists;
      into = beside_same _ _ _ _ _ _ c.in_ok-into.into (ap slice_index c.deref-3.ensures.value ∙ end_is from to each)
          (ap slice_index c.deref-4.ensures.value ∙ start_is from to each)
          (ap (λ (xs : List ℕ). length xs) c.deref-3.ensures.value ∙ each) c.in_ok-into.ensures.lists;
    }

pub returns : goal.returns
returns c =
    let links = c.args.network.now.links in
    let from : List ℕ = c.in_ok-from.from.items in
    let to : List ℕ = c.in_ok-to.to.items in
    let from_is : from ≡ map (λ (l : LinkRow). l.from) links = c.in_ok-from.ensures in
    let to_is : to ≡ map (λ (l : LinkRow). l.to) links = c.in_ok-to.ensures in
    let nodes : length c.in_ok-out.out ≡ length c.args.network.now.nodes = c.in_ok-out.ensures.count ∙ c.len-nodes.ensures in
    let ends : zip from to ≡ ends_of links = ap (λ (xs : List ℕ). zip xs to) from_is ∙ ap
    (λ (ys : List ℕ). zip (map (λ (l : LinkRow). l.from) links) ys) to_is ∙ zip_ends links in
    ap (λ (n : ℕ). made n (zip from to)) nodes ∙ ap (λ (es : List (ℕ × ℕ)). made (length c.args.network.now.nodes) es) ends
  where
    made : ℕ → List (ℕ × ℕ) → Graph
    made n es = record { nodes = n; ends = es }
