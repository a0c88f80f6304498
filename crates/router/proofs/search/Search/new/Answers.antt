use Rattle.std.proofs.Common.{arith, subst, ℕ, []}
use Rattle.travel_times.specs.Times.{arrivals}
use Rattle.router.specs.Frontiers.{IsFrontier}
use Rattle.router.proofs.search.Search.new.Goals as goal

pub invariant_of-result : goal.invariant_of-result
invariant_of-result c = record {
  few = c.nodes.ensures.few;
  inside = c.nodes.ensures.inside;
  from = let same = c.in_ok-frontier.ensures.from in let within = c.requires.from in omega arith;
  times = c.requires.times;
  search =
      let P : ℕ → Type 0 = λ nodes.
      IsFrontier nodes c.args.adjacency.now.ends (arrivals c.args.times.now) c.in_ok-frontier.frontier [] in
      subst P c.nodes.ensures.count (c.in_ok-frontier.ensures.search c.args.adjacency.now.ends (arrivals c.args.times.now));
}
