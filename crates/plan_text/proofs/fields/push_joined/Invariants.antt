use Rattle.records.proofs.Common.{◌≡◌, length, map, ◌++◌, join_with_byte}
use Rattle.plan_text.proofs.Joins.{behind_each}
use Rattle.plan_text.proofs.fields.push_joined.Given as goal

abbrev pub invariant-loop-rest : goal.invariant-loop-rest
invariant-loop-rest l = l.text.items ++ behind_each l.separator (map (λ p. p.now) l.rest) ≡ l.fn.text.items ++ join_with_byte l.separator (map (λ p. p.now) l.pieces)

abbrev pub decreases-loop-rest : goal.decreases-loop-rest
decreases-loop-rest l = length l.rest
