use Rattle.std.proofs.Common.{◌≡◌, ◌+◌, ◌++◌, drop, map}
use Rattle.plan_text.specs.Lines.{persons_lines}
use Rattle.iterations.specs.Written.{written_plans}
use Rattle.iterations.proofs.ends.push_persons.Given as goal

abbrev pub invariant-loop-place : goal.invariant-loop-place
invariant-loop-place l =
    l.text.items ++ persons_lines l.town.book (l.first + l.place) (drop l.place (map written_plans l.memories))
    ≡ l.initial.text.items ++ persons_lines l.town.book l.first (map written_plans l.memories)
