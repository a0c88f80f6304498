use Rattle.std.{proofs.Common.◌≡◌, proofs.Common.◌++◌, proofs.Common.length, proofs.Common.string_bytes, specs.List.flat_map}
use Rattle.plan_text.specs.Lines.{row_line}
use Rattle.workload.specs.Rows.{link_row}
use Rattle.workload.proofs.roads.links_text.Given as goal

abbrev pub invariant-loop-rest : goal.invariant-loop-rest
invariant-loop-rest l =
    string_bytes l.text ++ flat_map (λ link. row_line (link_row link)) l.rest
    ≡ string_bytes l.initial.text ++ flat_map (λ link. row_line (link_row link)) l.initial.rest

abbrev pub decreases-loop-rest : goal.decreases-loop-rest
decreases-loop-rest l = length l.rest
