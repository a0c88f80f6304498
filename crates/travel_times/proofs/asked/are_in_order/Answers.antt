use Rattle.travel_times.proofs.Orders.{out_of_order}
use Rattle.travel_times.proofs.asked.are_in_order.Goals as goal

pub returns-then-event-last : goal.returns-then-event-last
returns-then-event-last c = (
  λ never. absurd (cc never),
  λ order. absurd (out_of_order c.args.events.now c.loop-event.event-index c.loop-event.last _ c.loop-event-test.true c.if-event-last.true
      c.loop-event.invariant.last c.loop-event.invariant.first order),
)
