use Rattle.std.proofs.Common.{◌≡◌, ◌++◌, length, map}
use Rattle.signals.specs.Spans.{span_text}
use Rattle.signals.proofs.spans.span_texts.Given as goal

abbrev pub invariant-loop-rest : goal.invariant-loop-rest
invariant-loop-rest l = l.texts.items ++ map span_text (map (λ item. item.now) l.rest) ≡ map span_text (map (λ item. item.now) l.items)

abbrev pub decreases-loop-rest : goal.decreases-loop-rest
decreases-loop-rest l = length l.rest
