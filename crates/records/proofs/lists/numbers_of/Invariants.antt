use Rattle.records.proofs.Common.{◌≡◌, length, map, ◌++◌, option_map, numbers_of}
use Rattle.records.proofs.lists.numbers_of.Given as goal

-- the numbers so far, and those of the rest, are all the numbers
abbrev pub invariant-loop-rest : goal.invariant-loop-rest
invariant-loop-rest l =
    numbers_of (map (λ item. item.now) l.items) l.names ≡ option_map (λ more. l.numbers.items ++ more) (numbers_of (map (λ item. item.now) l.rest) l.names)

abbrev pub decreases-loop-rest : goal.decreases-loop-rest
decreases-loop-rest l = length l.rest
