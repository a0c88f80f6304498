use Rattle.std.proofs.Common.{◌≡◌, ◌+◌, ◌-◌, ◌≤◌, ◌++◌, ◌<◌, length, reverse, Some}
use Rattle.travel_times.specs.Times.{arrivals}
use Rattle.walks.specs.{Chosen.followed, Rounds.label_at, Rounds.rank}
use Rattle.router.specs.Ways.{label_or_0}
use Rattle.router.proofs.ways.followed_back.Given as goal

-- what is followed back from here and what was gathered is what is followed back from the end
abbrev pub invariant-loop-node : goal.invariant-loop-node
invariant-loop-node l = record {
  within : l.node < l.adjacency.nodes;
  labelled : label_at l.labels l.node ≡ Some (label_or_0 l.labels l.node);
  left : rank l.labels (label_or_0 l.labels l.node) + length l.links.items ≤ l.adjacency.nodes;
  way : followed l.adjacency.ends (arrivals l.times) l.labels l.from l.adjacency.nodes l.to
      ≡ followed l.adjacency.ends (arrivals l.times) l.labels l.from
      (l.adjacency.nodes - length l.links.items) l.node ++ reverse l.links.items;
}

abbrev pub decreases-loop-node : goal.decreases-loop-node
decreases-loop-node l = label_or_0 l.labels l.node
