use Rattle.traffic.proofs.Common.{◌≡◌, drop, on}
use Rattle.person_moves.specs.Places.{place_from}
use Rattle.person_moves.proofs.vehicle_rows.place_on.Given as goal

abbrev pub invariant-loop-place : goal.invariant-loop-place
invariant-loop-place l = place_from (on l.link l.stage) l.left l.place (drop l.place l.rows) ≡ place_from (on l.link l.stage) l.k 0 l.rows
