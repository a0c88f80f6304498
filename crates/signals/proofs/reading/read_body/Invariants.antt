use Rattle.signals.{proofs.Steps.IsReadTo, specs.Views.seen_of}
use Rattle.signals.proofs.reading.read_body.Given as goal

abbrev pub invariant-loop-place : goal.invariant-loop-place
invariant-loop-place l = IsReadTo l.links l.ends l.rows l.place (seen_of l.read)
