use Rattle.std.proofs.Common.{◌∙◌}
use Rattle.queue_link.proofs.Steps.{wait_stops_at, wait_arrives_at, wait_passes_at, wait_stays_on}
use Rattle.queue_link.proofs.state.LinkState.leave_wait.Goals as goal

pub returns-in-Stops-clause-leads : goal.returns-in-Stops-clause-leads
returns-in-Stops-clause-leads c = λ dwell ws.
    let f = rw (← c.self.view_is) at c.requires.is in
    let s = rw (← c.self.view_is) at c.requires.rests in
    let i = c.self.inside in
    rw (← c.self.view_is)
    (wait_stops_at i.numbers dwell ws c.args.second i.queue.items i.wait.items c.pop_front.new.self.items i.buffer.items i.bay.items
    c.in-Some.row i.credit c.args.said.now.items
    c.push_starts.new.out.items c.vehicle_of.result c.in-Some.ensures.items s (f
    ∙ c.in-Stops.is) c.vehicle_of.ensures c.in_ok-push_starts.ensures)

pub returns-in_ok-push_arrives-in-Arrives-clause-leads : goal.returns-in_ok-push_arrives-in-Arrives-clause-leads
returns-in_ok-push_arrives-in-Arrives-clause-leads c = λ dwell ws.
    let f = rw (← c.self.view_is) at c.requires.is in
    let s = rw (← c.self.view_is) at c.requires.rests in
    let i = c.self.inside in
    rw (← c.self.view_is)
    (wait_arrives_at i.numbers dwell ws c.args.second i.queue.items i.wait.items c.pop_front.new.self.items i.buffer.items i.bay.items
    c.in-Some.row i.credit c.args.said.now.items
    c.push_starts.new.out.items c.push_arrives.new.out.items c.vehicle_of-in-Arrives.result c.in-Some.ensures.items s (f
    ∙ c.in-Arrives.is) c.vehicle_of-in-Arrives.ensures
    c.in_ok-push_starts.ensures c.in_ok-push_arrives-in-Arrives.ensures)

pub returns-in_ok-let_pass-in-Passes-clause-leads : goal.returns-in_ok-let_pass-in-Passes-clause-leads
returns-in_ok-let_pass-in-Passes-clause-leads c = λ dwell ws.
    let f = rw (← c.self.view_is) at c.requires.is in
    let s = rw (← c.self.view_is) at c.requires.rests in
    let i = c.self.inside in
    rw (← c.self.view_is, c.in_ok-let_pass-in-Passes.ensures)
    (wait_passes_at i.numbers dwell ws c.args.second i.queue.items i.wait.items c.pop_front.new.self.items i.buffer.items i.bay.items
    c.in-Some.row i.credit c.args.said.now.items
    c.push_starts.new.out.items c.in-Some.ensures.items s (f ∙ c.in-Passes.is) c.in_ok-push_starts.ensures)

pub returns-in_ok-let_pass-in-Passes-clause-rests_on : goal.returns-in_ok-let_pass-in-Passes-clause-rests_on
returns-in_ok-let_pass-in-Passes-clause-rests_on c =
    let s = rw (← c.self.view_is) at c.requires.rests in
    let i = c.self.inside in
    rw c.in_ok-let_pass-in-Passes.ensures (wait_stays_on i.numbers c.args.second i.queue.items i.buffer.items _ i.credit s)
