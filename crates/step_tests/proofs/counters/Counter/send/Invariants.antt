use Rattle.std.proofs.Common.{◌≡◌, ◌<◌, ℕ, length}
use Rattle.step_core.specs.{Nets.border_at, Views.in_place}
use Rattle.step_tests.specs.Counters.{IsAsBefore, is_number}
use Rattle.step_tests.proofs.counters.Counter.send.Given as goal

abbrev pub invariant-loop-place : goal.invariant-loop-place
invariant-loop-place l = IsAsBefore l.initial.self l.self × (l.self.inbox.items ≡ l.initial.self.inbox.items)
    × (length l.self.outbox.items ≡ length l.initial.self.outbox.items)
    × ((k : ℕ) → k < l.place → is_number l.initial.self.number (border_at l.initial.self.neighbours k).neighbour l.initial.self.seconds
    (in_place 0 l.self.outbox.items k))
