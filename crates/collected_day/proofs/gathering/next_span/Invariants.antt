use Rattle.std.proofs.Common.{◌≡◌, ℕ}
use Rattle.event_pipe.specs.Pipes.{parts, gathered}
use Rattle.collected_day.proofs.gathering.next_span.Given as goal

abbrev pub invariant-loop : goal.invariant-loop
invariant-loop g l = (parts l.gather ≡ parts l.initial.gather) × ((p : ℕ) → gathered l.gather p ≡ gathered l.initial.gather p)
