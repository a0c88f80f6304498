use Rattle.std.{proofs.Common.◌≡◌, proofs.Common.length, proofs.Common.take, proofs.Common.map, specs.List.list_any, specs.List.flat_map}
use Rattle.rows.specs.PlanRows.{plan_rows}
use Rattle.partition.specs.{Neighbours.AreJoined, Neighbours.is_hop_over, Neighbours.hops_in, Owned.owner_in}
use Rattle.partition.proofs.joining.join_by_plans.Given as goal

abbrev pub invariant-loop-plan : goal.invariant-loop-plan
invariant-loop-plan l = record {
  long : length l.joined ≡ 4096;
  joined : AreJoined (λ p q. list_any (is_hop_over (owner_in l.owner.of_node) l.links p q) (flat_map hops_in (map plan_rows (take l.plan-index l.chosen)))) l.initial.joined l.joined;
}
