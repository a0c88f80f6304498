use Rattle.std.{proofs.Common.◌≡◌, proofs.Common.◌++◌, proofs.Common.◌-◌, specs.List.flat_map}
use Rattle.town.specs.Views.{setup}
use Rattle.traffic.specs.Lists.{below, numbers}
use Rattle.law_parts_of_days.specs.Riding.{told_on}
use Rattle.parted_day.proofs.ends.push_ends.Given as goal

abbrev pub invariant-loop-person : goal.invariant-loop-person
invariant-loop-person l =
    let f = told_on (setup l.day) l.day.town.now.settings.end_second l.links l.persons in
    l.events.items ++ flat_map f (numbers l.person (l.person-end - l.person)) ≡ l.initial.events.items ++ flat_map f (below l.person-end)
