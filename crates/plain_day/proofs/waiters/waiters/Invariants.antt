use Rattle.traffic.proofs.Common.{◌≡◌, ◌++◌, ◌-◌, flat_map, below, numbers, waiter, person_of}
use Rattle.town.specs.Views.{setup}
use Rattle.plain_day.proofs.waiters.waiters.Given as goal

abbrev pub invariant-loop-i : goal.invariant-loop-i
invariant-loop-i l =
    l.all.items ++ flat_map (λ i. waiter (setup l.day) l.link i (person_of i l.world)) (numbers l.i (l.i-end - l.i))
    ≡ flat_map (λ i. waiter (setup l.day) l.link i (person_of i l.world)) (below l.i-end)
