use Rattle.std.proofs.Common.{◌∙◌}
use Rattle.queue_link.proofs.Steps.{queue_stops_at, queue_arrives_at, queue_passes_at}
use Rattle.queue_link.proofs.state.LinkState.leave_queue.Goals as goal

pub returns-in-Stops-clause-leads : goal.returns-in-Stops-clause-leads
returns-in-Stops-clause-leads c = λ dwell ws.
    let f = rw (← c.self.view_is) at c.requires.is in
    let i = c.self.inside in
    rw (← c.self.view_is)
    (queue_stops_at i.numbers dwell ws c.args.second i.queue.items c.pop_front.new.self.items i.buffer.items i.wait.items i.bay.items
    c.in-Some.row i.credit c.args.said.now.items
    c.vehicle_of.result c.in-Some.ensures.items (f ∙ c.in-Stops.is) c.vehicle_of.ensures)

pub returns-in_ok-push_arrives-in-Arrives-clause-leads : goal.returns-in_ok-push_arrives-in-Arrives-clause-leads
returns-in_ok-push_arrives-in-Arrives-clause-leads c = λ dwell ws.
    let f = rw (← c.self.view_is) at c.requires.is in
    let i = c.self.inside in
    rw (← c.self.view_is)
    (queue_arrives_at i.numbers dwell ws c.args.second i.queue.items c.pop_front.new.self.items i.buffer.items i.wait.items i.bay.items
    c.in-Some.row i.credit c.args.said.now.items
    c.push_arrives.new.out.items c.vehicle_of-in-Arrives.result c.in-Some.ensures.items (f
    ∙ c.in-Arrives.is) c.vehicle_of-in-Arrives.ensures c.in_ok-push_arrives-in-Arrives.ensures)

pub returns-in_ok-let_pass-in-Passes-clause-leads : goal.returns-in_ok-let_pass-in-Passes-clause-leads
returns-in_ok-let_pass-in-Passes-clause-leads c = λ dwell ws.
    let f = rw (← c.self.view_is) at c.requires.is in
    let i = c.self.inside in
    rw (← c.self.view_is, c.in_ok-let_pass-in-Passes.ensures)
    (queue_passes_at i.numbers dwell ws c.args.second i.queue.items c.pop_front.new.self.items i.buffer.items i.wait.items i.bay.items
    c.in-Some.row i.credit c.args.said.now.items
    c.in-Some.ensures.items (f ∙ c.in-Passes.is))
