use Rattle.std.{proofs.Common.◌≡◌, proofs.Common.length, proofs.Common.take, specs.List.list_any}
use Rattle.partition.specs.{Neighbours.AreJoined, Neighbours.is_over, Owned.owner_in}
use Rattle.partition.proofs.joining.join_by_links.Given as goal

abbrev pub invariant-loop-link : goal.invariant-loop-link
invariant-loop-link l = record {
  long : length l.joined ≡ 4096;
  joined : AreJoined (λ p q. list_any (is_over (owner_in l.owner.of_node) p q) (take l.link-index l.links)) l.initial.joined l.joined;
}
