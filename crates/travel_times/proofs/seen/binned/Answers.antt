use Rattle.travel_times.proofs.Binning.{binned_more, binned_all}
use Rattle.std.proofs.Common.{rules, arith}
use Rattle.travel_times.proofs.seen.binned.Goals as goal

pub loop-row-preserved : goal.loop-row-preserved
loop-row-preserved c =
    binned_more c.args.free c.loop-row.hold c.loop-row.bins.items c.push.new.self.items c.args.link c.loop-row.row-index c.args.rows.now
    c.row-item.result c.tally.result
    c.average_or-time.result c.max-hold.result c.loop-row-test.true c.row-item.is c.tally.ensures c.average_or-time.ensures
    (search rules) c.in_ok-push.ensures.items c.loop-row.invariant

pub returns : goal.returns
returns c =
    binned_all c.args.free c.loop-row.hold c.loop-row.bins.items c.push-2.new.self.items c.args.link c.loop-row.row-index c.args.rows.now
    (omega arith) c.in_ok-push-2.ensures.items c.loop-row.invariant
