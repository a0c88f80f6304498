use Rattle.law_sleeping.proofs.Whole.{link_second, links_link_state}
use Rattle.law_sleeping.proofs.seconds.links_sleep_on.Goals as goal

pub returns-clause-moves : goal.returns-clause-moves
returns-clause-moves c = λ S blocked t due l V a b e s. (link_second S blocked t due l V a b e s).0

pub returns-clause-sleep : goal.returns-clause-sleep
returns-clause-sleep c = λ S blocked t due l V a b e s. (link_second S blocked t due l V a b e s).1

pub returns-clause-link_state : goal.returns-clause-link_state
returns-clause-link_state c = links_link_state
