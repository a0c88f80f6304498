use Rattle.std.proofs.Common.{◌≡◌, map, length}
use Rattle.traffic.specs.Lists.{below}
use Rattle.divided_day.specs.Days.{told_in}
use Rattle.divided_day.proofs.days.told_by.Given as goal

abbrev pub invariant-loop-part : goal.invariant-loop-part
invariant-loop-part g l = l.lists.items ≡ map (told_in (g.T.DayPart.day l.run) (g.T.DayPart.owner l.run)) (below (length l.yielded))
