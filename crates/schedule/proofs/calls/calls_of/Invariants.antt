use Rattle.std.proofs.Common.{◌≡◌, ◌++◌, length, map}
use Rattle.schedule.specs.Calls.{call_of}
use Rattle.schedule.proofs.calls.calls_of.Given as goal

abbrev pub invariant-loop-rest : goal.invariant-loop-rest
invariant-loop-rest l = l.calls.items ++ map (call_of l.fn.rows) l.rest ≡ map (call_of l.fn.rows) l.texts

abbrev pub decreases-loop-rest : goal.decreases-loop-rest
decreases-loop-rest l = length l.rest
