use Rattle.std.{proofs.Common.◌≡◌, proofs.Common.length, specs.List.flat_map}
use Rattle.traffic.specs.Lists.{below}
use Rattle.rows.specs.PlanRows.{plan_rows}
use Rattle.partition.specs.{Neighbours.AreShorter, Neighbours.shortest, Neighbours.seconds_of_hop, Neighbours.hop_leads_over, Neighbours.hop_in, Owned.owner_in}
use Rattle.partition.proofs.borders.shorten_by_plan.Given as goal

abbrev pub invariant-loop-leg : goal.invariant-loop-leg
invariant-loop-leg l = record {
  long : length l.lags ≡ 4096;
  short : AreShorter (λ p q n. shortest seconds_of_hop (hop_leads_over (owner_in l.owner.of_node) l.links p q) (flat_map (hop_in (plan_rows l.plan)) (below l.leg)) n) l.initial.lags l.lags;
}
