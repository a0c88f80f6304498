use Rattle.records.proofs.Common.{◌≡◌, length, map, ◌++◌, parts_of}
use Rattle.records.proofs.lists.parts_of.Given as goal

-- the parts so far, and those of the rest, are all the parts
abbrev pub invariant-loop-place : goal.invariant-loop-place
invariant-loop-place l = map (λ part. part.now) l.parts.items ++ parts_of l.separator l.rest ≡ parts_of l.separator l.bytes

abbrev pub decreases-loop-place : goal.decreases-loop-place
decreases-loop-place l = length l.rest
