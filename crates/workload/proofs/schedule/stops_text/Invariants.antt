use Rattle.std.{proofs.Common.◌≡◌, proofs.Common.◌++◌, proofs.Common.codes, proofs.Common.string_bytes, specs.List.flat_map, specs.List.range_with_len}
use Rattle.plan_text.specs.Lines.{row_line}
use Rattle.workload.specs.Rows.{stop_row}
use Rattle.workload.proofs.schedule.stops_text.Given as goal

abbrev pub invariant-loop-stop : goal.invariant-loop-stop
invariant-loop-stop l = string_bytes l.text ≡ codes "stop,link\n" ++ flat_map (λ stop. row_line (stop_row stop)) (range_with_len 0 l.stop)
