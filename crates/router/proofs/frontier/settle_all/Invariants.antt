use Rattle.std.proofs.Common.{[]}
use Rattle.travel_times.specs.Times.{arrivals}
use Rattle.router.specs.Frontiers.{IsFrontier, GoesOn, work}
use Rattle.router.proofs.frontier.settle_all.Given as goal

abbrev pub invariant-loop : goal.invariant-loop
invariant-loop l = record {
  search : IsFrontier l.adjacency.nodes l.adjacency.ends (arrivals l.times) l.frontier [];
  goes_on : GoesOn l.initial.frontier l.frontier;
}

abbrev pub decreases-loop : goal.decreases-loop
decreases-loop l = work l.frontier
