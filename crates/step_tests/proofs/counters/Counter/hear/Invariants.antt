use Rattle.std.proofs.Common.{◌≡◌, ℕ, ◌<◌, length}
use Rattle.step_core.specs.Views.{in_place}
use Rattle.step_tests.specs.Counters.{IsAsBefore}
use Rattle.step_tests.proofs.counters.Counter.hear.Given as goal

abbrev pub invariant-loop-place : goal.invariant-loop-place
invariant-loop-place l = (length l.self.inbox.items ≡ length l.initial.self.inbox.items)
    × ((k : ℕ) → k < l.place → in_place 0 l.self.inbox.items k ≡ 0) × IsAsBefore l.initial.self l.self
    × (l.self.outbox.items ≡ l.initial.self.outbox.items)
