use Rattle.travel_times.proofs.Free.{free_alike}
use Rattle.travel_times.proofs.laws.free_links_take_alike.Goals as goal

pub returns : goal.returns
returns c = free_alike
