use Rattle.std.proofs.Common.{◌-◌, ◌++◌, arith, ◌∙◌, sym}
use Rattle.queue_link.proofs.Dues.{vehicle_left, vehicle_right}
use Rattle.queue_link.proofs.state.LinkState.at.Goals as goal

pub returns-then-place-queued : goal.returns-then-place-queued
returns-then-place-queued c =
    let i = c.self.inside in
    rw (← c.self.view_is) (c.vehicle_in.ensures ∙ sym
    (vehicle_left c.args.place i.queue.items (i.buffer.items ++ (i.wait.items ++ i.bay.items)) (omega arith)))

pub returns-then-behind-buffered : goal.returns-then-behind-buffered
returns-then-behind-buffered c =
    let i = c.self.inside in
    let k = c.args.place - c.len-queued.result in
    rw (← c.self.view_is)
    (c.vehicle_in-then-behind-buffered.ensures
    ∙ sym (vehicle_right c.args.place k i.queue.items (i.buffer.items ++ (i.wait.items ++ i.bay.items)) (omega arith)
    ∙ vehicle_left k i.buffer.items (i.wait.items ++ i.bay.items) (omega arith)))

pub returns-then-waiting-starting : goal.returns-then-waiting-starting
returns-then-waiting-starting c =
    let i = c.self.inside in
    let k = c.args.place - c.len-queued.result in
    let j = k - c.len-buffered.result in
    rw (← c.self.view_is)
    (c.vehicle_in-then-waiting-starting.ensures
    ∙ sym (
    vehicle_right c.args.place k i.queue.items (i.buffer.items ++ (i.wait.items ++ i.bay.items)) (omega arith)
    ∙ vehicle_right k j i.buffer.items (i.wait.items ++ i.bay.items) (omega arith)
    ∙ vehicle_left j i.wait.items i.bay.items (omega arith)))

pub returns : goal.returns
returns c =
    let i = c.self.inside in
    let k = c.args.place - c.len-queued.result in
    let j = k - c.len-buffered.result in
    let h = j - c.len-starting.result in
    let e = rw c.deref.ensures.value at c.vehicle_in_bay.ensures in
    rw (← c.self.view_is)
    (e
    ∙ sym (
    vehicle_right c.args.place k i.queue.items (i.buffer.items ++ (i.wait.items ++ i.bay.items)) (omega arith)
    ∙ vehicle_right k j i.buffer.items (i.wait.items ++ i.bay.items) (omega arith)
    ∙ vehicle_right j h i.wait.items i.bay.items (omega arith)))
