use Rattle.cells.specs.Rule.{no_border}
use Rattle.cells.proofs.hub.split_seat.Given as goal

abbrev pub ghosts-split_seat_at : goal.ghosts-split_seat_at
ghosts-split_seat_at g a = record { border = no_border; partition = a.p }
