use Rattle.std.proofs.Common.{◌≡◌, map}
use Rattle.signals.specs.Signals.{or_always}
use Rattle.signals.proofs.signals_read.greens_of.Given as goal

abbrev pub invariant-loop-signal : goal.invariant-loop-signal
invariant-loop-signal l = l.rows.items ≡ map or_always l.yielded
