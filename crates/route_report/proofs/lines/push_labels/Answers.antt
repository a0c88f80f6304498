use Rattle.std.proofs.Common.{arith}
use Rattle.route_report.proofs.LabelLines.{label_here, all_lines}
use Rattle.route_report.proofs.lines.push_labels.Goals as goal

pub loop-node-preserved : goal.loop-node-preserved
loop-node-preserved c = label_here c.args.names.now c.args.labels.now c.loop-node.node _ c.get.result.now c.loop-node.text.items c.push_reached.new.text.items _
    c.requires (omega (arith, c.loop-node-test.true, c.len-node-end.ensures.count)) c.get.ensures c.in_ok-push_reached.ensures c.loop-node.invariant

pub returns : goal.returns
returns c = all_lines c.args.names.now c.args.labels.now c.loop-node.node c.loop-node.text.items _
    (omega (arith, c.loop-node-test.false, c.len-node-end.ensures.count)) c.loop-node.invariant
