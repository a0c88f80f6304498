use Rattle.std.proofs.Common.{[]}
use Rattle.travel_times.specs.Times.{arrivals}
use Rattle.router.specs.Frontiers.{IsFrontier, GoesOn, work}
use Rattle.router.proofs.frontier.settle.Given as goal

abbrev pub invariant-loop-frontier : goal.invariant-loop-frontier
invariant-loop-frontier l = record {
  search : IsFrontier l.adjacency.nodes l.adjacency.ends (arrivals l.times) l.frontier [];
  goes_on : GoesOn l.initial.frontier l.frontier;
}

abbrev pub decreases-loop-frontier : goal.decreases-loop-frontier
decreases-loop-frontier l = work l.frontier
