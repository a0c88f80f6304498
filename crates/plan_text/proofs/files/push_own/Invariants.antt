use Rattle.std.proofs.Common.{◌≡◌, ◌++◌, drop, map}
use Rattle.rows.specs.PlanRows.{plan_rows}
use Rattle.plan_text.specs.Lines.{own_lines}
use Rattle.plan_text.proofs.files.push_own.Given as goal

abbrev pub invariant-loop-index : goal.invariant-loop-index
invariant-loop-index l =
    l.text.items ++ own_lines l.book l.person l.index (drop l.index (map plan_rows l.plans)) ≡ l.initial.text.items ++ own_lines l.book l.person 0 (map plan_rows l.plans)
