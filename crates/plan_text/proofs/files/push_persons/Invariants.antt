use Rattle.std.proofs.Common.{◌≡◌, ◌++◌, drop}
use Rattle.rows.specs.PlanRows.{all_plan_rows}
use Rattle.plan_text.specs.Lines.{persons_lines}
use Rattle.plan_text.proofs.files.push_persons.Given as goal

abbrev pub invariant-loop-person : goal.invariant-loop-person
invariant-loop-person l =
    l.text.items ++ persons_lines l.book l.person (drop l.person (all_plan_rows l.plans)) ≡ l.initial.text.items ++ persons_lines l.book 0 (all_plan_rows l.plans)
