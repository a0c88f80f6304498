use Rattle.std.proofs.Common.{◌≡◌, [], replicate}
use Rattle.car_routes.proofs.wanted.no_targets.Given as goal

-- no target for each node so far
abbrev pub invariant-loop : goal.invariant-loop
invariant-loop l = l.rows.items ≡ replicate l.counter []
