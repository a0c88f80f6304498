use Rattle.std.proofs.Common.{◌∙◌, ◌++◌, List, ℕ, ap, Some}
use Rattle.rows.specs.PlanRows.{PlanRows}
use Rattle.plan_text.{proofs.Whole.only_plan, proofs.Whole.fits_too, proofs.Whole.lines_too, proofs.Whole.same_bytes, specs.Lines.element_lines}
use Rattle.plan_text.proofs.reading.read_body.Goals as goal

pub returns-then-not-is_plan_in-clause-read : goal.returns-then-not-is_plan_in-clause-read
returns-then-not-is_plan_in-clause-read c plan is =
    let fits = fits_too c.args.person c.args.index c.args.book.now c.args.bytes.now c.deref.result.now c.deref-2.result.now c.know_names.ensures c.requires c.ranges.index.fits
    (c.deref.ensures.value ∙ c.in_ok-acts.ensures.acts) (c.deref-2.ensures.value ∙ c.in_ok-acts.ensures.legs) plan is in
    let told = c.is_plan_in.ensures in
    let not = c.if-not-is_plan_in.true in
    cc

pub returns-then-not-is_text-clause-read : goal.returns-then-not-is_text-clause-read
returns-then-not-is_text-clause-read c plan is =
    let lines = lines_too c.args.person c.args.index c.args.book.now c.args.bytes.now c.deref-3.result.now c.deref-4.result.now c.know_names.ensures c.requires c.ranges.index.fits
    (c.deref-3.ensures.value ∙ c.in_ok-acts.ensures.acts) (c.deref-4.ensures.value ∙ c.in_ok-acts.ensures.legs) plan is in
    let same = same_bytes c.deref-5.result.now c.args.bytes.now
    (c.deref-5.ensures.value ∙ c.in_ok-push_elements.ensures ∙ ap (λ (l : List ℕ). l ++ element_lines c.args.book.now c.args.person c.args.index c.deref-3.result.now c.deref-4.result.now) c.new-text.ensures.items ∙ lines) in
    let told = c.is_text.ensures in
    let not = c.if-not-is_text.true in
    cc

pub returns-clause-read : goal.returns-clause-read
returns-clause-read c plan is =
    ap (λ (p : PlanRows). Some p) (c.plan_of.ensures ∙ only_plan c.args.person c.args.index c.args.book.now c.args.bytes.now c.in_ok-acts.field-0.acts.items c.in_ok-acts.field-0.legs.items c.know_names.ensures
    c.requires c.ranges.index.fits c.in_ok-acts.ensures.acts c.in_ok-acts.ensures.legs plan is)
