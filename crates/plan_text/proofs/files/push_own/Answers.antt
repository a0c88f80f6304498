use Rattle.std.proofs.Common.{ap, ◌++◌, ◌∙◌}
use Rattle.rows.specs.{PlanRows.plan_rows, declared.plan.Plan.Plan}
use Rattle.plan_text.{proofs.PlanFiles.own-more, specs.Lines.plan_lines}
use Rattle.plan_text.proofs.files.push_own.Goals as goal

pub loop-index-preserved : goal.loop-index-preserved
loop-index-preserved c =
    own-more c.args.book.now c.args.person c.args.plans.now c.loop-index.index c.index-plans-index.result c.loop-index.text.items c.write_plan.new.out.items _
    c.loop-index-test.true
    (c.in_ok-write_plan.ensures.ok ∙ ap (λ (p : Plan). c.loop-index.text.items ++ plan_lines c.args.person c.loop-index.index (plan_rows p) c.args.book.now) c.index-plans-index.is)
    c.loop-index.invariant
