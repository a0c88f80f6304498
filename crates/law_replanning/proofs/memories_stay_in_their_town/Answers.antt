use Rattle.law_replanning.proofs.Remembered.{all_in, all_fit_again, replanned_count, first_in, chosen_in}
use Rattle.law_replanning.proofs.memories_stay_in_their_town.Goals as goal

pub returns-clause-stay : goal.returns-clause-stay
returns-clause-stay c T basis memories town own all = all_in T town basis own memories all

pub returns-clause-fit : goal.returns-clause-fit
returns-clause-fit c T basis memories town own fit = all_fit_again T town basis own memories fit

pub returns-clause-count : goal.returns-clause-count
returns-clause-count c basis memories = replanned_count basis memories

pub returns-clause-first : goal.returns-clause-first
returns-clause-first c T plans some few all = first_in T plans some few all

pub returns-clause-chosen : goal.returns-clause-chosen
returns-clause-chosen c T m own = chosen_in T m own
