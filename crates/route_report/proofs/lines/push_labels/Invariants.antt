use Rattle.std.proofs.Common.{◌≡◌, ◌++◌, drop}
use Rattle.route_report.specs.Report.{label_lines}
use Rattle.route_report.proofs.lines.push_labels.Given as goal

-- the lines of the nodes from this one on are still to be written
abbrev pub invariant-loop-node : goal.invariant-loop-node
invariant-loop-node l =
    l.text.items ++ label_lines (drop l.node l.names) (drop l.node l.labels) ≡ l.initial.text.items ++ label_lines l.names l.labels
