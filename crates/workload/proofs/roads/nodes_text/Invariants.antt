use Rattle.std.{proofs.Common.◌≡◌, proofs.Common.◌++◌, proofs.Common.codes, proofs.Common.string_bytes, specs.List.flat_map, specs.List.range_with_len}
use Rattle.plan_text.specs.Lines.{row_line}
use Rattle.workload.specs.Rows.{node_row}
use Rattle.workload.proofs.roads.nodes_text.Given as goal

abbrev pub invariant-loop-node : goal.invariant-loop-node
invariant-loop-node l = string_bytes l.text ≡ codes "node,x,y\n" ++ flat_map (λ node. row_line (node_row l.size node)) (range_with_len 0 l.node)
