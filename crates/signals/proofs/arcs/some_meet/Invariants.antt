use Rattle.std.{proofs.Common.◌≡◌, proofs.Common.drop, specs.List.list_any}
use Rattle.signals.specs.Arcs.{meets_some, arc_of}
use Rattle.signals.proofs.arcs.some_meet.Given as goal

abbrev pub invariant-loop-span : goal.invariant-loop-span
invariant-loop-span l = list_any (λ span. meets_some l.circle (arc_of l.circle l.first span) l.second) (drop l.span-index l.first.spans) ≡ list_any (λ span. meets_some l.circle (arc_of l.circle l.first span) l.second) l.first.spans
