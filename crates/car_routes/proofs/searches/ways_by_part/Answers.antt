use Rattle.std.proofs.Common.{◌≡◌, ◌-◌, ℕ, List, length, map, IfOk, subst, ◌∙◌, ap, arith}
use Rattle.std.specs.{Int.div_ceil, List.range_with_len}
use Rattle.travel_times.specs.Times.{arrivals}
use Rattle.router.proofs.Gathered.{gathered}
use Rattle.rayon.specs.Numbers.{nat_range}
use Rattle.car_routes.{proofs.Finding.WayList, proofs.Parts.part_within, proofs.Routing.in_range, specs.Found.part_ways}
use Rattle.car_routes.specs.declared.searches.TheConstants.{PART_NODES}
use Rattle.car_routes.proofs.searches.ways_by_part.Goals as goal

pub collect-requires-clause-ready : goal.collect-requires-clause-ready
collect-requires-clause-ready g c κs within =
    rw (c.map.ensures.base, c.map.ensures.f, c.into_par_iter.ensures.0, c.into_par_iter.ensures.1)
    (λ k d lt. (
      (
        c.requires,
        part_within _ (length c.args.targets.now) (in_range c.div_ceil.result
            (div_ceil (length c.args.targets.now) PART_NODES) k d
            (c.div_ceil.ensures ∙ ap (λ (n : ℕ). div_ceil n PART_NODES) c.len.ensures) lt),
      ),
      λ y p. tt,
    ))

pub returns : goal.returns
returns g c =
    let own : ℕ → List WayList = part_ways c.args.adjacency.now (arrivals c.args.times.now) c.args.targets.now in
    let h = c.in_ok-found.ensures in
    let chain = rw (c.map.ensures.base, c.map.ensures.f) at h.1 in
    let ends = c.into_par_iter.ensures in
    let count : c.div_ceil.result ≡ div_ceil (length c.args.targets.now) PART_NODES =
    c.div_ceil.ensures ∙ ap (λ (n : ℕ). div_ceil n PART_NODES) c.len.ensures in
    let whole : c.div_ceil.result - 0 ≡ div_ceil (length c.args.targets.now) PART_NODES = omega (arith, count) in
    let all = ap (map own) (chain.1 ∙ (λ i. nat_range (ends.0 i) (ends.1 i)) ∙ ap (range_with_len 0) whole) in
    subst (λ (ys : List (List WayList)). IfOk c.in_ok-found.found (λ v. v.items ≡ ys)) all
    (gathered (λ v. v.items) own chain.0 h.0 c.in_ok-found.found h.2 chain.2)
