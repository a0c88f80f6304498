use Rattle.traffic.proofs.Common.{◌≡◌, length, ◌++◌, filter, on}
use Rattle.plain_day.proofs.views.rows_at.Given as goal

abbrev pub invariant-loop-rest : goal.invariant-loop-rest
invariant-loop-rest l = l.there.items ++ filter (on l.link l.stage) l.rest ≡ filter (on l.link l.stage) l.rows

abbrev pub decreases-loop-rest : goal.decreases-loop-rest
decreases-loop-rest l = length l.rest
