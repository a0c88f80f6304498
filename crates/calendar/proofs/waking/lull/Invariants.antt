use Rattle.std.proofs.Common.{◌≡◌, drop}
use Rattle.calendar.specs.Waking.{asleep}
use Rattle.calendar.proofs.waking.lull.Given as goal

abbrev pub invariant-loop-number : goal.invariant-loop-number
invariant-loop-number l = asleep (drop l.number-index l.numbers) l.due.items ≡ asleep l.numbers l.initial.due.items
