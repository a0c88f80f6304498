use Rattle.std.proofs.Common.{◌≡◌, ℕ, ◌+◌, ◌-◌, ◌*◌, List, [], ◌∷◌, ◌++◌, map, sym, ap, ◌∙◌, arith}
use Rattle.std.{proofs.lemmas.List.FromFn.map-range_with_len_more, specs.List.range_with_len}
use Rattle.travel_times.specs.Times.{arrivals}
use Rattle.car_routes.{proofs.Finding.WayList, specs.Found.ways_from, specs.Wanted.row_of}
use Rattle.car_routes.specs.declared.searches.TheConstants.{PART_NODES}
use Rattle.car_routes.proofs.searches.ways_of_part.Goals as goal

pub loop-node-preserved : goal.loop-node-preserved
loop-node-preserved c =
    let first : ℕ = c.args.part * PART_NODES in
    let node : ℕ = c.loop-node.node in
    let own : ℕ → WayList = λ n. ways_from c.args.adjacency.now (arrivals c.args.times.now) n (row_of c.args.targets.now n) in
    let begun = c.loop-node.auto.node in
    let count : node - first + 1 ≡ node + 1 - first = omega arith in
    record {
      search = c.in_ok-next.ensures.search;
      ways = c.in_ok-push.ensures.items ∙ ap (λ (ws : List WayList). ws ++ c.in_ok-next.ways ∷ []) c.loop-node.invariant.ways
          ∙ ap (λ (w : WayList). map own (range_with_len first (node - first)) ++ w ∷ []) c.in_ok-next.ensures.ways
          ∙ sym (map-range_with_len_more own first (node - first) node (omega arith))
          ∙ ap (λ (n : ℕ). map own (range_with_len first n)) count;
    }
