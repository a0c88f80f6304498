use Rattle.riders.proofs.Apart.{stop_waits, boards_alike, rows_alike, left_here, left_elsewhere, left_once}
use Rattle.riders.proofs.laws.stops_keep_apart.Goals as goal

pub returns : goal.returns
returns c = assumption (stop_waits, boards_alike, rows_alike, left_here, left_elsewhere, left_once)
