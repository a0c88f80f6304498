use Rattle.std.proofs.Common.{◌≡◌, take}
use Rattle.scenario.specs.Legs.{numbers_in}
use Rattle.scenario.proofs.numbering.numbers_in.Given as goal

-- the names so far are looked up
abbrev pub invariant-loop-number : goal.invariant-loop-number
invariant-loop-number l = l.numbers.items ≡ numbers_in (take l.number l.names) l.town
