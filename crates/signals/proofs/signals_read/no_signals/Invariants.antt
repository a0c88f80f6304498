use Rattle.std.{proofs.Common.◌≡◌, proofs.Common.None, specs.Prelude.replicate}
use Rattle.signals.proofs.signals_read.no_signals.Given as goal

-- no signal for each link so far
abbrev pub invariant-loop : goal.invariant-loop
invariant-loop l = l.signals.items ≡ replicate l.counter None
