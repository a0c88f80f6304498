use Rattle.std.proofs.Common.{◌≡◌, length}
use Rattle.step_core.specs.Views.{EachAt}
use Rattle.workers.proofs.days.first_parts.Given as goal

abbrev pub invariant-loop-number : goal.invariant-loop-number
invariant-loop-number g l = record {
  many : length l.parts.items ≡ l.number;
  start : EachAt g.T.Part.nothing g.T.Part.see (g.T.Part.stands l.run) 0 (λ p. length (g.T.Part.borders l.run p)) l.number l.parts.items;
}
