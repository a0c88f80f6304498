use Rattle.std.proofs.Common.{rules}
use Rattle.queue_link.proofs.Steps.{lists_only, leads_on, leads_to_halt}
use Rattle.queue_link.proofs.state.LinkState.turn_queue.Goals as goal

pub queue-preserved : goal.queue-preserved
queue-preserved c = record {
  leads =
      leads_on c.args.self.now c.queue.self c.leave_queue.new.self c.args.second c.args.said.now.items c.queue.said.items
      c.leave_queue.new.said.items c.queue.invariant.leads c.in_ok-leave_queue.ensures.same
      (λ dwell ws. rw c.in-None.is at (c.in_ok-leave_queue.ensures.leads dwell ws));
  same = lists_only c.args.self.now c.queue.self c.leave_queue.new.self c.queue.invariant.same c.in_ok-leave_queue.ensures.same;
}

pub returns-in-Some : goal.returns-in-Some
returns-in-Some c = record {
  leads =
      leads_to_halt c.args.self.now c.queue.self _ c.args.second c.args.said.now.items c.queue.said.items c.queue.invariant.leads
      (λ dwell ws. rw c.in-Some.is at (c.in_ok-leave_queue.ensures.leads dwell ws));
  rests = search rules;
  same = lists_only c.args.self.now c.queue.self c.leave_queue.new.self c.queue.invariant.same c.in_ok-leave_queue.ensures.same;
}
