use Rattle.std.proofs.Common.{◌≡◌, ◌+◌, ◌-◌, ◌∷◌, ◌++◌, string_bytes}
use Rattle.std.specs.List.{flat_map, range_with_len}
use Rattle.workload.specs.Rows.{link_name}
use Rattle.workload.proofs.schedule.push_links.Given as goal

abbrev pub invariant-loop-stop : goal.invariant-loop-stop
invariant-loop-stop l = string_bytes l.text ≡ string_bytes l.initial.text ++ flat_map (λ stop. 32 ∷ link_name (stop, stop + 1)) (range_with_len 1 (l.stop - 1))
