use Rattle.std.proofs.Common.{◌≡◌, ℕ, List, length, map, IfOk, subst, ◌∙◌, ap}
use Rattle.plan_memory.specs.Memories.{MemoryRows}
use Rattle.replanning.proofs.Numbers.{all_numbered, by_pairs}
use Rattle.replanning.specs.{Persons.replanned, Persons.is_on, Views.basis_of, declared.spread.Numbered.Numbered}
use Rattle.router.proofs.Gathered.{gathered}
use Rattle.replanning.proofs.spread.replan.Goals as goal

pub collect-requires-clause-ready : goal.collect-requires-clause-ready
collect-requires-clause-ready g c κs within =
    let inside = all_numbered (λ (one : Numbered). (one.person, one.memory)) (is_on (length c.args.replanning.now.adjacency.now.ends)) 0
    c.args.memories.items c.in_ok-all.all.items c.in_ok-all.ensures c.requires.on in
    rw (c.map.ensures.base, c.map.ensures.f, c.with_min_len.ensures.base, c.into_par_iter.ensures)
    (λ k d lt. ((c.requires.basis, inside k d lt), λ y p. tt))

pub returns : goal.returns
returns g c =
    let basis = basis_of c.args.replanning.now in
    let pair : Numbered → ℕ × MemoryRows = λ one. (one.person, one.memory) in
    let of_pair : ℕ × MemoryRows → MemoryRows = λ own. replanned basis own.0 own.1 in
    let f : Numbered → MemoryRows = λ one. replanned basis one.person one.memory in
    let h = c.in_ok-new.ensures in
    let chain = rw (c.map.ensures.base, c.map.ensures.f, c.with_min_len.ensures.base) at h.1 in
    let all = ap (map f) (chain.1 ∙ c.into_par_iter.ensures)
    ∙ by_pairs pair of_pair c.args.memories.items c.in_ok-all.all.items c.in_ok-all.ensures in
    subst (λ (ys : List MemoryRows). IfOk c.in_ok-new.new (λ v. v.items ≡ ys)) all (gathered (λ v. v.items) f chain.0 h.0 c.in_ok-new.new h.2 chain.2)
