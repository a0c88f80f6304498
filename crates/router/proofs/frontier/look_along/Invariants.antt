use Rattle.std.proofs.Common.{◌≡◌, ◌≤◌, drop, map, Some}
use Rattle.travel_times.specs.Times.{arrivals}
use Rattle.walks.specs.Rounds.{label_at}
use Rattle.router.specs.{Frontiers.IsFrontier, Frontiers.GoesOn, Frontiers.work, declared.star.Spoke.Spoke}
use Rattle.router.proofs.frontier.look_along.Given as goal

abbrev pub invariant-loop-place : goal.invariant-loop-place
invariant-loop-place l = record {
  search : IsFrontier l.adjacency.nodes l.adjacency.ends (arrivals l.times) l.frontier
      (drop l.place (map (λ (spoke : Spoke). spoke.link) l.links));
  left : label_at l.frontier.labels.items l.node ≡ Some l.left;
  horizon : l.frontier.horizon ≤ l.left;
  goes_on : GoesOn l.initial.frontier l.frontier;
  less : work l.frontier ≤ work l.initial.frontier;
}
