use Rattle.std.{proofs.Common.◌≡◌, proofs.Common.drop, specs.List.list_any}
use Rattle.signals.specs.Arcs.{meet, arc_of}
use Rattle.signals.proofs.arcs.meets_some.Given as goal

abbrev pub invariant-loop-span : goal.invariant-loop-span
invariant-loop-span l = list_any (λ span. meet l.circle l.arc (arc_of l.circle l.green span)) (drop l.span-index l.green.spans) ≡ list_any (λ span. meet l.circle l.arc (arc_of l.circle l.green span)) l.green.spans
