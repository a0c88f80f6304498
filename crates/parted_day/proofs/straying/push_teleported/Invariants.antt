use Rattle.std.{proofs.Common.◌≡◌, proofs.Common.◌++◌, proofs.Common.drop, specs.Prelude.map}
use Rattle.parted_day.specs.Strays.{teleported_stray}
use Rattle.parted_day.proofs.straying.push_teleported.Given as goal

abbrev pub invariant-loop-sent : goal.invariant-loop-sent
invariant-loop-sent l =
    l.strays.items ++ map (teleported_stray l.second) (drop l.sent-index l.teleported)
    ≡ l.initial.strays.items ++ map (teleported_stray l.second) l.teleported
