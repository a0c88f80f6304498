use Rattle.router.proofs.Joining.{leg_joins}
use Rattle.router.proofs.laws.leg_routes_join_their_links.Goals as goal

pub returns : goal.returns
returns c graph arrive second here there fifo inside here_in there_in = leg_joins graph arrive fifo inside second here there here_in there_in
