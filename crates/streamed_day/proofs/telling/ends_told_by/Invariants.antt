use Rattle.std.proofs.Common.{◌≡◌, map}
use Rattle.streamed_day.specs.Telling.{told_at_end}
use Rattle.streamed_day.proofs.telling.ends_told_by.Given as goal

abbrev pub invariant-loop-part : goal.invariant-loop-part
invariant-loop-part g l =
    l.lists.items ≡ map (λ x. told_at_end (g.T.DayPart.day l.run) (g.T.DayPart.owner l.run) (g.T.Part.see x)) l.yielded
