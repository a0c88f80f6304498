use Rattle.std.{proofs.Common.◌≡◌, proofs.Common.length, proofs.Common.map, specs.List.enumerate_from}
use Rattle.replanning.specs.declared.spread.Numbered.{Numbered}
use Rattle.replanning.proofs.spread.with_numbers.Given as goal

abbrev pub invariant-loop-memory : goal.invariant-loop-memory
invariant-loop-memory l = (map (λ (one : Numbered). (one.person, one.memory)) l.all.items ≡ enumerate_from 0 l.yielded)
    × (length l.all.items ≡ length l.yielded)
