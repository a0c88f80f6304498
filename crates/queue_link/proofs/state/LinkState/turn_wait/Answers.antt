use Rattle.std.proofs.Common.{sym}
use Rattle.queue_link.proofs.Steps.{lists_only, leads_on, leads_to_halt, none_goes}
use Rattle.queue_link.proofs.state.LinkState.turn_wait.Goals as goal

pub returns-in-Stays-clause-goes_on : goal.returns-in-Stays-clause-goes_on
returns-in-Stays-clause-goes_on c =
    leads_to_halt c.args.self.now c.wait.self _ c.args.second c.args.said.now.items c.wait.said.items c.wait.invariant.leads
    (none_goes c.wait.self c.args.second c.wait.said.items c.wait.invariant.rests (sym c.in-Stays.ensures))

pub wait-preserved : goal.wait-preserved
wait-preserved c = record {
  leads =
      leads_on c.args.self.now c.wait.self c.leave_wait.new.self c.args.second c.args.said.now.items c.wait.said.items
      c.leave_wait.new.said.items c.wait.invariant.leads c.in_ok-leave_wait.ensures.same
      (λ dwell ws. rw c.in-None.is at (c.in_ok-leave_wait.ensures.leads dwell ws));
  rests = rw c.in-None.is at c.in_ok-leave_wait.ensures.rests_on;
  same = lists_only c.args.self.now c.wait.self c.leave_wait.new.self c.wait.invariant.same c.in_ok-leave_wait.ensures.same;
}

pub returns-in-Some : goal.returns-in-Some
returns-in-Some c = record {
  goes_on =
      leads_to_halt c.args.self.now c.wait.self _ c.args.second c.args.said.now.items c.wait.said.items c.wait.invariant.leads
      (λ dwell ws. rw c.in-Some.is at (c.in_ok-leave_wait.ensures.leads dwell ws));
  same = lists_only c.args.self.now c.wait.self c.leave_wait.new.self c.wait.invariant.same c.in_ok-leave_wait.ensures.same;
}
