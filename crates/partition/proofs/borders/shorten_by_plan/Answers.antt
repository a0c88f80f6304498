use Rattle.std.proofs.Common.{arith, refl}
use Rattle.rows.specs.PlanRows.{plan_rows}
use Rattle.partition.proofs.{Loops.hop_shortened, Loops.no_hop_shortened, Tables.shorter_none, borders.shorten_by_plan.Goals.in-Some}
use Rattle.partition.{proofs.borders.shorten_by_plan.Goals.in_default, specs.Neighbours.seconds_of_hop, specs.Neighbours.hop_leads_over, specs.Owned.owner_in}
use Rattle.partition.proofs.borders.shorten_by_plan.Goals as goal

pub loop-leg-init : goal.loop-leg-init
loop-leg-init c = record { long = c.requires; short = shorter_none seconds_of_hop (hop_leads_over (owner_in c.args.owner.now.of_node) c.args.links.now) c.args.lags.now }

pub loop-leg-preserved : goal.loop-leg-preserved
loop-leg-preserved c =
    let hops = c.match-hop_of in
    let own = owner_in c.args.owner.now.of_node in
    let shortens = hop_shortened own c.args.links.now (plan_rows c.args.plan.now) c.loop-leg.leg in
    let stays = no_hop_shortened own c.args.links.now (plan_rows c.args.plan.now) c.loop-leg.leg c.args.lags.now c.loop-leg.lags in
    record {
      long = omega (arith, hops.auto.lags, c.loop-leg.invariant.long);
      short = elim hops.branch [
        | in-Some w ↦
            rw w.lags-is
            (shortens w.owners_of_hop-from.result.0 w.owners_of_hop-from.result.1 w.in-Some.hop.seconds
            (record { from = w.in-Some.hop.from; to = w.in-Some.hop.to; seconds = w.in-Some.hop.seconds }) c.args.lags.now c.loop-leg.lags
            w.shorten.new.lags w.in-Some.ensures w.owners_of_hop-from.ensures.from w.owners_of_hop-from.ensures.to refl c.loop-leg.invariant.short w.shorten.ensures)
        | in_default w ↦ rw w.lags-is (stays w.in_default.ensures c.loop-leg.invariant.short)
      ];
    }
