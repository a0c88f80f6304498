use Rattle.std.proofs.Common.{refl}
use Rattle.travel_times.specs.Times.{arrival_by}
use Rattle.travel_times.proofs.laws.worked_arrivals.Goals as goal

pub returns-clause-last_slow : goal.returns-clause-last_slow
unfolding arrival_by
returns-clause-last_slow c = refl

pub returns-clause-first_held : goal.returns-clause-first_held
unfolding arrival_by
returns-clause-first_held c = refl

pub returns-clause-held : goal.returns-clause-held
unfolding arrival_by
returns-clause-held c = refl

pub returns-clause-last_held : goal.returns-clause-last_held
unfolding arrival_by
returns-clause-last_held c = refl

pub returns-clause-free : goal.returns-clause-free
unfolding arrival_by
returns-clause-free c = refl
