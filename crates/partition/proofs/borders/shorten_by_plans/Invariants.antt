use Rattle.std.{proofs.Common.◌≡◌, proofs.Common.length, proofs.Common.take, proofs.Common.map, specs.List.flat_map}
use Rattle.rows.specs.PlanRows.{plan_rows}
use Rattle.partition.specs.Owned.{owner_in}
use Rattle.partition.specs.Neighbours.{AreShorter, shortest, seconds_of_hop, hop_leads_over, hops_in}
use Rattle.partition.proofs.borders.shorten_by_plans.Given as goal

abbrev pub invariant-loop-plan : goal.invariant-loop-plan
invariant-loop-plan l = record {
  long : length l.lags ≡ 4096;
  short : AreShorter (λ p q n. shortest seconds_of_hop (hop_leads_over (owner_in l.owner.of_node) l.links p q) (flat_map hops_in (map plan_rows (take l.plan-index l.chosen))) n) l.initial.lags l.lags;
}
