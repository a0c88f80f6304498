use Rattle.std.proofs.Common.{arith}
use Rattle.number_sets.proofs.Bits.{none_past, none_left, next_is}
use Rattle.number_sets.proofs.number_set.NumberSet.next.Goals as goal

pub returns-then-from-ge-CAPACITY-clause-none : goal.returns-then-from-ge-CAPACITY-clause-none
returns-then-from-ge-CAPACITY-clause-none c = λ k le. none_past c.args.self.now c.args.from k (rw (← c.self.view_is) c.self.invariant) (omega arith) le

pub returns-then-rest-eq0-clause-none : goal.returns-then-rest-eq0-clause-none
returns-then-rest-eq0-clause-none c = rw (← c.self.view_is) (λ k. none_left c.self.inside.bits c.args.from k c.self.invariant (omega arith) c.if-rest-eq0.true)

pub returns-clause-some : goal.returns-clause-some
returns-clause-some c = rw (← c.self.view_is) (next_is c.self.inside.bits c.args.from c.self.invariant (omega arith) (omega arith))
