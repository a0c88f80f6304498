use Rattle.std.proofs.Common.{◌≡◌, map, take}
use Rattle.streamed_day.specs.Telling.{told_last}
use Rattle.streamed_day.proofs.telling.told_by.Given as goal

abbrev pub invariant-loop-part : goal.invariant-loop-part
invariant-loop-part g l =
    l.lists.items
    ≡ map (λ x. told_last (g.T.DayPart.day l.run) (g.T.DayPart.owner l.run) (g.T.Part.see x)) (take l.part-index l.parts)
