use Rattle.std.proofs.Common.{◌≡◌, ◌++◌, ◌≤◌, length, take, drop}
use Rattle.std.specs.Prelude.{map, filter}
use Rattle.traffic.specs.Stops.{may_board, rider}
use Rattle.riders.specs.Serving.{left_over}
use Rattle.riders.proofs.serves.board.Given as goal

abbrev pub invariant-loop-waiter : goal.invariant-loop-waiter
invariant-loop-waiter l = record {
  boarded : l.boarded.items ++ map rider (take l.seats (filter (may_board l.vehicle) (drop l.waiter-index l.waiters)))
      ≡ map rider (take l.initial.seats (filter (may_board l.vehicle) l.waiters));
  few : length l.boarded.items ≤ l.waiter-index;
  left : l.left.items ++ left_over l.seats (may_board l.vehicle) (drop l.waiter-index l.waiters)
      ≡ left_over l.initial.seats (may_board l.vehicle) l.waiters;
}
