use Rattle.traffic.proofs.Common.{◌≡◌, length, ◌++◌, keyed}
use Rattle.person_moves.proofs.keys.push_keyed.Given as goal

abbrev pub invariant-loop-rest : goal.invariant-loop-rest
invariant-loop-rest l =
    l.out.items ++ keyed l.second l.code l.number l.index l.rest
    ≡ l.initial.out.items ++ keyed l.second l.code l.number 0 l.said

abbrev pub decreases-loop-rest : goal.decreases-loop-rest
decreases-loop-rest l = length l.rest
