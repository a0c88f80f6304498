use Rattle.traffic.proofs.Common.{◌≡◌, ◌++◌, drop, map, filter, nat_le, waiting}
use Rattle.traffic.specs.declared.world.Row.{Row}
use Rattle.plain_turns.proofs.links.push_due.Given as goal

abbrev pub invariant-loop-row : goal.invariant-loop-row
invariant-loop-row l =
    l.out.items ++ map (waiting l.l) (filter (λ (r : Row). nat_le r.second l.second) (drop l.row-index l.bay))
    ≡ l.initial.out.items ++ map (waiting l.l) (filter (λ (r : Row). nat_le r.second l.second) l.bay)
