use Rattle.partition.proofs.cutting.+arrange.Given as goal

abbrev pub decreases-arrange : goal.decreases-arrange
decreases-arrange l = l.count
