use Rattle.std.proofs.Common.{◌≡◌, ℕ, ◌<◌, length}
use Rattle.step_core.specs.Views.{in_place}
use Rattle.step_tests.proofs.counters.places.Given as goal

abbrev pub invariant-loop-place : goal.invariant-loop-place
invariant-loop-place l = (length l.places.items ≡ l._place) × ((k : ℕ) → k < l._place → in_place 0 l.places.items k ≡ 0)
