use Rattle.std.proofs.Common.{◌≡◌, ◌+◌, ◌-◌, ◌∷◌, ◌++◌, string_bytes}
use Rattle.std.specs.List.{flat_map, range_with_len}
use Rattle.workload.specs.Rows.{call_text}
use Rattle.workload.proofs.schedule.push_calls.Given as goal

abbrev pub invariant-loop-stop : goal.invariant-loop-stop
invariant-loop-stop l = string_bytes l.text ≡ string_bytes l.initial.text ++ flat_map (λ stop. 32 ∷ call_text stop) (range_with_len 1 (l.stop - 1))
