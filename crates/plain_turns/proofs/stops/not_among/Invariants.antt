use Rattle.traffic.proofs.Common.{◌≡◌, length, ◌++◌, list_any, filter, not, is_person}
use Rattle.traffic.specs.declared.world.Waiter.{Waiter}
use Rattle.plain_turns.proofs.stops.not_among.Given as goal

abbrev pub invariant-loop-rest : goal.invariant-loop-rest
invariant-loop-rest l = l.left.items ++ filter (λ (w : Waiter). not (list_any (is_person w.person) l.boards)) l.rest ≡ filter (λ (w : Waiter). not (list_any (is_person w.person) l.boards)) l.waiters

abbrev pub decreases-loop-rest : goal.decreases-loop-rest
decreases-loop-rest l = length l.rest
