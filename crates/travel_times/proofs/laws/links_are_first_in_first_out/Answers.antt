use Rattle.travel_times.proofs.Arriving.{arrivals_are_fifo}
use Rattle.travel_times.proofs.laws.links_are_first_in_first_out.Goals as goal

pub returns : goal.returns
returns c times = arrivals_are_fifo times
