use Rattle.std.proofs.Common.{◌≡◌, ◌++◌, length}
use Rattle.calendar.specs.Hooks.{walk, last_from, last_at}
use Rattle.calendar.proofs.hooks.hanging.Given as goal

abbrev pub invariant-chain : goal.invariant-chain
invariant-chain l = record {
  numbers : l.numbers.items ++ walk l.hooks l.left l.rest ≡ walk l.hooks (length l.hooks) l.fn.head;
  last : last_from l.hooks l.left l.last l.rest ≡ last_at l.hooks l.fn.head;
}

abbrev pub decreases-chain : goal.decreases-chain
decreases-chain l = l.left
