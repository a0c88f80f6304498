use Rattle.number_sets.proofs.Bits.{none_in, bare}
use Rattle.number_sets.proofs.number_set.NumberSet.is_empty.Goals as goal

pub returns-clause-none : goal.returns-clause-none
returns-clause-none c = rw (← c.self.view_is) (λ empty k. none_in c.self.inside.bits k empty)

pub returns-clause-empty : goal.returns-clause-empty
returns-clause-empty c = rw (← c.self.view_is) (bare c.self.inside.bits c.self.invariant)
