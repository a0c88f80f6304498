use Rattle.std.proofs.Common.{arith, subst, ap, ℕ, []}
use Rattle.travel_times.specs.Times.{arrivals}
use Rattle.router.specs.{Frontiers.IsFrontier, Ways.Query}
use Rattle.router.proofs.search.Search.again.Goals as goal

pub invariant_of-result : goal.invariant_of-result
invariant_of-result c = record {
  few = c.self.invariant.few;
  inside = c.self.invariant.inside;
  from =
      let same = c.in_ok-frontier.ensures.from in
      let within = c.requires.from in
      let graph = ap (λ (q : Query). q.graph.nodes) c.self.view_is in
      omega arith;
  times = c.self.invariant.times;
  search =
      let P : ℕ → Type 0 = λ nodes.
      IsFrontier nodes c.self.inside.adjacency.now.ends (arrivals c.self.inside.times.now) c.in_ok-frontier.frontier [] in
      subst P c.self.invariant.search.search.count
      (c.in_ok-frontier.ensures.search c.self.inside.adjacency.now.ends (arrivals c.self.inside.times.now));
}
