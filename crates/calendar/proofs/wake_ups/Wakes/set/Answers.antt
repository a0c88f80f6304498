use Rattle.std.proofs.Common.{◌<◌, length}
use Rattle.calendar.proofs.{Hung.hung_set, Hung.hung_off, Hung.hung_same, wake_ups.Wakes.set.Goals.in-Some+in_ok-add, wake_ups.Wakes.set.Goals.in_default}
use Rattle.calendar.proofs.wake_ups.Wakes.set.Goals as goal

pub invariant_of-self : goal.invariant_of-self
invariant_of-self c = hung_same c.self.inside.due.items c.self.inside.calendar c.add.new.self c.self.invariant c.in_err-add.ensures.err

pub invariant_of-self-2 : goal.invariant_of-self-2
invariant_of-self-2 c =
    let due = c.self.inside.due.items in
    let lt : c.args.number < length due = rw (← c.self.view_is) at c.requires in
    elim c.match-second.branch [
      | in-Some+in_ok-add w ↦
          rw (c.in_ok-due.ensures.ok, w.in-Some.is, w.self-inside-is)
          (hung_set due c.self.inside.calendar w.add.new.self c.args.number w.in-Some.second lt c.self.invariant w.in_ok-add.ensures.ok)
      | in_default w ↦
          rw (c.in_ok-due.ensures.ok, w.in_default.is, w.self-inside-is) (hung_off due c.self.inside.calendar c.args.number lt c.self.invariant)
    ]
