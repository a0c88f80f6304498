use Rattle.std.proofs.Common.{◌≡◌, ◌<◌, ◌≤◌, ℕ, true}
use Rattle.cells.specs.Ports.{IsPort, SameSecond, degree, handover, is_taken, is_put}
use Rattle.cell_tests.specs.Numbers.{IsNumber}
use Rattle.cell_tests.proofs.seconds.put_all.Given as goal

abbrev pub invariant-loop-k : goal.invariant-loop-k
invariant-loop-k l =
    IsPort IsNumber l.board l.port × SameSecond l.initial.port l.port × ((j : ℕ) → j < l.k → is_put (handover l.port j) ≡ true)
    × ((j : ℕ) → l.k ≤ j → j < degree l.port → is_taken (handover l.port j) ≡ true)
