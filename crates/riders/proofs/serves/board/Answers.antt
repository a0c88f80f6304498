use Rattle.std.proofs.Common.{rules, ◌∙◌, sym}
use Rattle.traffic.specs.{Stops.may_board, declared.world.Waiter.Waiter}
use Rattle.riders.proofs.Lines.{taken_boards, taken_leaves, left_boards, left_leaves, none_more}
use Rattle.riders.proofs.serves.board.Goals.{then-takes_seat+in_ok-push, else-takes_seat+in_ok-push-2}
use Rattle.riders.proofs.serves.board.Goals as goal

nobody : Waiter
nobody = record { person = 0; stop = 0; line = 0; egress = 0; kind = 0; since = 0 }

pub loop-waiter-preserved : goal.loop-waiter-preserved
unfolding nobody
loop-waiter-preserved c =
    let k = c.loop-waiter.seats in
    let p = may_board c.args.vehicle.now in
    let i = c.loop-waiter.waiter-index in
    let ws = c.args.waiters.now in
    let lt = c.loop-waiter-test.true in
    elim c.if-takes_seat.branch [
      | then-takes_seat+in_ok-push w ↦
          let g = sym c.takes_seat.ensures ∙ w.if-takes_seat.true in
          rw (w.boarded-is, w.left-is, w.seats-is) (record {
            boarded = taken_boards c.loop-waiter.boarded.items w.push.new.self.items k p nobody w.as_rider.result i ws _
                w.in_ok-push.ensures.items w.as_rider.ensures lt g c.loop-waiter.invariant.boarded;
            few = search rules;
            left = taken_leaves c.loop-waiter.left.items k p nobody i ws _ lt g c.loop-waiter.invariant.left;
          })
      | else-takes_seat+in_ok-push-2 w ↦
          let g = sym c.takes_seat.ensures ∙ w.if-takes_seat.false in
          rw (w.boarded-is, w.left-is, w.seats-is) (record {
            boarded = left_boards c.loop-waiter.boarded.items k p nobody i ws _ lt g c.loop-waiter.invariant.boarded;
            few = search rules;
            left = left_leaves c.loop-waiter.left.items w.push-else-takes_seat.new.self.items k p nobody i ws _
                w.in_ok-push-2.ensures.items lt g c.loop-waiter.invariant.left;
          })
    ]

pub returns-clause-left : goal.returns-clause-left
returns-clause-left c = none_more c.loop-waiter.left.items c.loop-waiter.seats _ c.loop-waiter.waiter-index c.args.waiters.now _
    (search rules) c.loop-waiter.invariant.left
