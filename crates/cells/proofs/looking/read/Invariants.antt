use Rattle.cells.proofs.looking.read.Given as goal

abbrev pub ghosts-read_at : goal.ghosts-read_at
ghosts-read_at g a = record { border = a.border; partition = 0 }
