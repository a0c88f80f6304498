use Rattle.std.proofs.Common.{◌<◌, ℕ}
use Rattle.cells.specs.Ports.{IsPort, SameSecond, IsUntouched, IsUnread}
use Rattle.cell_tests.specs.Numbers.{IsNumber}
use Rattle.cell_tests.proofs.seconds.look_all.Given as goal

abbrev pub invariant-loop-k : goal.invariant-loop-k
invariant-loop-k l =
    IsPort IsNumber l.board l.port × SameSecond l.initial.port l.port × IsUntouched l.port × ((j : ℕ) → j < l.k → IsUnread l.port j)
