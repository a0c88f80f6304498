use Rattle.std.{proofs.Common.◌≡◌, proofs.Common.[], specs.Prelude.replicate}
use Rattle.parted_day.proofs.beginnings.empty_lines.Given as goal

abbrev pub invariant-loop-stop : goal.invariant-loop-stop
invariant-loop-stop l = l.lines.items ≡ replicate l._stop []
