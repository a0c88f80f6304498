use Rattle.std.proofs.Common.{◌≡◌, ◌++◌, drop}
use Rattle.plan_text.specs.Lines.{element_lines}
use Rattle.plan_text.proofs.writing.push_elements.Given as goal

abbrev pub invariant-loop-place : goal.invariant-loop-place
invariant-loop-place l =
    l.text.items ++ element_lines l.book l.person l.index (drop l.place l.acts) (drop l.place l.legs) ≡ l.initial.text.items ++ element_lines l.book l.person l.index l.acts l.legs
