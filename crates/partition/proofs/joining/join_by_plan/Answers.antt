use Rattle.std.proofs.Common.{arith}
use Rattle.rows.specs.PlanRows.{plan_rows}
use Rattle.partition.proofs.{Loops.hop_joined, Loops.no_hop_joined, joining.join_by_plan.Goals.in-Some, joining.join_by_plan.Goals.in_default}
use Rattle.partition.specs.Owned.{owner_in}
use Rattle.partition.proofs.joining.join_by_plan.Goals as goal

pub loop-leg-preserved : goal.loop-leg-preserved
loop-leg-preserved c =
    let own = owner_in c.args.owner.now.of_node in
    let links = c.args.links.now in
    let rows = plan_rows c.args.plan.now in
    let k = c.loop-leg.leg in
    let i = c.loop-leg.invariant in
    elim c.match-hop_of.branch [
      | in-Some w ↦
          let h = w.in-Some.hop in
          let e = w.owners_of_hop-from in
          rw w.joined-is (record {
            long = omega (arith, c.match-hop_of.auto.joined, i.long);
            joined =
                hop_joined own links rows k e.result.0 e.result.1 (record { from = h.from; to = h.to; seconds = h.seconds }) c.args.joined.now c.loop-leg.joined
                w.join.new.joined w.in-Some.ensures e.ensures.from e.ensures.to i.joined w.join.ensures;
          })
      | in_default w ↦
          rw w.joined-is (record { long = i.long; joined = no_hop_joined own links rows k c.args.joined.now c.loop-leg.joined w.in_default.ensures i.joined })
    ]
