use Rattle.std.proofs.Common.{arith}
use Rattle.partition.proofs.{Loops.link_shortened_at, Tables.shorter_none_both}
use Rattle.partition.specs.{Neighbours.hole_at, Neighbours.leads_over, Owned.owner_in}
use Rattle.travel_times.specs.Times.{free_of}
use Rattle.partition.proofs.borders.shorten_by_links.Goals as goal

pub loop-link-init : goal.loop-link-init
loop-link-init c =
    let own = owner_in c.args.owner.now.of_node in
    record {
      long = c.requires.long;
      short = shorter_none_both free_of (hole_at c.args.hole_speed) (leads_over own) (λ p q. leads_over own q p) c.args.lags.now;
    }

pub loop-link-preserved : goal.loop-link-preserved
loop-link-preserved c =
    let a = c.shorten.auto.lags in
    let b = c.shorten-in-loop-link.auto.lags in
    let l = c.loop-link.invariant.long in
    record {
      long = omega (arith, a, b, l);
      short =
          link_shortened_at (owner_in c.args.owner.now.of_node) c.args.hole_speed c.args.links.now c.loop-link.link-index _ c.owner_of_node-from.result c.owner_of_node-to.result
          c.link_seconds.result c.hole_seconds.result c.args.lags.now c.loop-link.lags c.shorten.new.lags c.shorten-in-loop-link.new.lags c.loop-link-test.true
          c.owner_of_node-from.ensures c.owner_of_node-to.ensures c.link_seconds.ensures c.hole_seconds.ensures c.loop-link.invariant.short c.shorten.ensures c.shorten-in-loop-link.ensures;
    }
