use Rattle.std.proofs.Common.{add-one}
use Rattle.law_parts_of_days.proofs.Sole.{whole_part, tells_day, alone_day, no_neighbour}
use Rattle.law_parts_of_days.proofs.one_partition_is_the_day.Goals as goal

pub returns-clause-held : goal.returns-clause-held
returns-clause-held c = λ S t. whole_part S _ t

pub returns-clause-ready : goal.returns-clause-ready
returns-clause-ready c = λ S t. whole_part S _ t

pub returns-clause-next : goal.returns-clause-next
returns-clause-next c = λ S t sound consistent. rw (add-one t) (alone_day S t sound consistent)

pub returns-clause-events : goal.returns-clause-events
returns-clause-events c = λ S t sound consistent. tells_day S t sound consistent

pub returns-clause-neighbours : goal.returns-clause-neighbours
returns-clause-neighbours c = λ S q sound consistent. no_neighbour S q sound consistent
