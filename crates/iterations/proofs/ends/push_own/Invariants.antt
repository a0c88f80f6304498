use Rattle.std.proofs.Common.{◌≡◌, ◌++◌, drop}
use Rattle.plan_text.specs.Lines.{own_lines}
use Rattle.iterations.specs.Written.{written_plans}
use Rattle.iterations.proofs.ends.push_own.Given as goal

abbrev pub invariant-loop-index : goal.invariant-loop-index
invariant-loop-index l =
    l.text.items ++ own_lines l.town.book l.person l.index (drop l.index (written_plans l.memory))
    ≡ l.initial.text.items ++ own_lines l.town.book l.person 0 (written_plans l.memory)
