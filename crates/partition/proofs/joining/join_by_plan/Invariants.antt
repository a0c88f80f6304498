use Rattle.std.{proofs.Common.◌≡◌, proofs.Common.length, specs.List.list_any, specs.List.flat_map}
use Rattle.traffic.specs.Lists.{below}
use Rattle.rows.specs.PlanRows.{plan_rows}
use Rattle.partition.specs.{Neighbours.AreJoined, Neighbours.is_hop_over, Neighbours.hop_in, Owned.owner_in}
use Rattle.partition.proofs.joining.join_by_plan.Given as goal

abbrev pub invariant-loop-leg : goal.invariant-loop-leg
invariant-loop-leg l = record {
  long : length l.joined ≡ 4096;
  joined : AreJoined (λ p q. list_any (is_hop_over (owner_in l.owner.of_node) l.links p q) (flat_map (hop_in (plan_rows l.plan)) (below l.leg))) l.initial.joined l.joined;
}
