use Rattle.std.proofs.Common.{◌≡◌, ◌++◌, length, map}
use Rattle.schedule.specs.Calls.{call_text}
use Rattle.schedule.proofs.calls.call_texts.Given as goal

abbrev pub invariant-loop-rest : goal.invariant-loop-rest
invariant-loop-rest l = l.texts.items ++ map (call_text l.stops) (map (λ item. item.now) l.rest) ≡ map (call_text l.stops) (map (λ item. item.now) l.items)

abbrev pub decreases-loop-rest : goal.decreases-loop-rest
decreases-loop-rest l = length l.rest
