use Rattle.traffic.proofs.Common.{◌≡◌, ◌++◌, ◌-◌, flat_map, below, numbers}
use Rattle.law_in_range.proofs.Dawn.{told_at_end}
use Rattle.plain_day.proofs.days.push_ends.Given as goal

abbrev pub invariant-loop-i : goal.invariant-loop-i
invariant-loop-i l =
    l.out.items ++ flat_map (told_at_end l.day l.world) (numbers l.i (l.i-end - l.i)) ≡ l.initial.out.items ++ flat_map (told_at_end l.day l.world) (below l.i-end)
