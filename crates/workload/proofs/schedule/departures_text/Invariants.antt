use Rattle.std.{proofs.Common.◌≡◌, proofs.Common.◌++◌, proofs.Common.codes, proofs.Common.string_bytes, specs.List.flat_map, specs.List.range_with_len}
use Rattle.plan_text.specs.Lines.{row_line}
use Rattle.workload.specs.Rows.{departure_row}
use Rattle.workload.proofs.schedule.departures_text.Given as goal

abbrev pub invariant-loop-departure : goal.invariant-loop-departure
invariant-loop-departure l = string_bytes l.text ≡ codes "departure,route,second,seats\n" ++ flat_map (λ departure. row_line (departure_row departure)) (range_with_len 0 l.departure)
