use Rattle.traffic.proofs.{Links.link-at, Links.link_state-other, Waiting.waiters-other}
use Rattle.traffic.proofs.laws.links_keep_apart.Goals as goal

pub returns : goal.returns
returns c = search (link-at, link_state-other, waiters-other)
