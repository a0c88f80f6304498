use Rattle.std.proofs.Common.{arith}
use Rattle.partition.proofs.{Loops.plan_shortened, Tables.shorter_none}
use Rattle.partition.specs.{Neighbours.seconds_of_hop, Neighbours.hop_leads_over, Owned.owner_in}
use Rattle.partition.proofs.borders.shorten_by_plans.Goals as goal

pub loop-plan-init : goal.loop-plan-init
loop-plan-init c = record { long = c.requires; short = shorter_none seconds_of_hop (hop_leads_over (owner_in c.args.owner.now.of_node) c.args.links.now) c.args.lags.now }

pub loop-plan-preserved : goal.loop-plan-preserved
loop-plan-preserved c =
    let a = c.shorten_by_plan.auto.lags in
    let l = c.loop-plan.invariant.long in
    record {
      long = omega (arith, a, l);
      short =
          plan_shortened (owner_in c.args.owner.now.of_node) c.args.links.now c.args.chosen.now c.loop-plan.plan-index c.plan-item.result c.args.lags.now c.loop-plan.lags
          c.shorten_by_plan.new.lags c.loop-plan-test.true c.plan-item.is c.loop-plan.invariant.short c.shorten_by_plan.ensures;
    }
