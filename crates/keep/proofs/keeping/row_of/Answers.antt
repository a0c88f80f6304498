use Rattle.rows.specs.PlanRows.{PlanRows, plan_rows}
use Rattle.plan_text.specs.Lines.{are_in_book}
use Rattle.keep.proofs.Pushing.{at_place}
use Rattle.keep.proofs.keeping.row_of.Goals as goal

pub lines_of-requires-clause-named : goal.lines_of-requires-clause-named
lines_of-requires-clause-named c =
    at_place (λ (p : PlanRows). are_in_book c.args.book.now p.acts p.legs) c.args.memory.now.plans c.args.index (plan_rows c.plan.result.now)
    c.requires.named c.plan.ensures
