use Rattle.std.proofs.Common.{◌≡◌, ◌++◌, take}
use Rattle.events.specs.Lines.{event_lines}
use Rattle.events.proofs.writing.lines.Given as goal

abbrev pub invariant-loop-event : goal.invariant-loop-event
invariant-loop-event l = l.out.items ≡ l.initial.out.items ++ event_lines (take l.event-index l.events) l.book
