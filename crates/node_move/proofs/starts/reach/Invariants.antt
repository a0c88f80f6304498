use Rattle.std.proofs.Common.{◌≡◌, ℕ, ◌+◌, ◌-◌, length, get_or}
use Rattle.node_move.proofs.starts.reach.Given as goal

abbrev pub invariant-reached : goal.invariant-reached
invariant-reached l = (r : ℕ) → get_or l.starts.items r 0 ≡ get_or l.initial.starts.items r 0

abbrev pub decreases-reached : goal.decreases-reached
decreases-reached l = l.block + 1 - length l.starts.items
