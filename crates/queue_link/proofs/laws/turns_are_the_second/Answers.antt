use Rattle.std.proofs.Common.{refl}
use Rattle.fixed_flow.specs.Flow.{raised_times}
use Rattle.traffic.specs.Links.{link_moves}
use Rattle.queue_link.proofs.Looping.{queue_comes}
use Rattle.queue_link.proofs.laws.turns_are_the_second.Goals as goal

pub returns-clause-begin : goal.returns-clause-begin
unfolding link_moves raised_times
returns-clause-begin c = λ K t l ws L. refl

pub returns-clause-turn : goal.returns-clause-turn
returns-clause-turn c = λ n dwell t ws L said h g. queue_comes n dwell t ws L.queue L.buffer L.wait L.bay L.credit said h g
