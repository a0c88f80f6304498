use Rattle.std.proofs.Common.{◌<◌, ◌^◌, Option, sym, ap, subst, ◌∙◌, arith}
use Rattle.std.specs.Prelude.{option_map, IfSome}
use Rattle.rows.specs.{PlanRows.plan_rows, declared.plan.Plan.Plan}
use Rattle.plan_text.specs.Lines.{IsTextOf}
use Rattle.town.specs.Views.{rows_of}
use Rattle.keep.proofs.{PlanTexts.plan_found, PlanTexts.plan_unfit, PlanTexts.plan_none, Tests.none_some}
use Rattle.keep.proofs.steps.plan_in.Goals as goal

pub returns-in_default : goal.returns-in_default
returns-in_default c =
    sym (plan_none (rows_of c.args.town.now) c.args.person c.args.index c.args.text.now (λ plan is.
    none_some plan (sym (ap (option_map plan_rows) c.in_default.is) ∙ c.in_ok-read.ensures.read plan is)))

pub returns-then-plan_fits : goal.returns-then-plan_fits
returns-then-plan_fits c =
    let small : c.args.index < 2 ^ 32 = omega (arith, c.ranges.index.fits) in
    let is = subst (λ (o : Option Plan). IfSome o (λ p. IsTextOf c.args.person c.args.index c.args.town.now.book c.args.text.now (plan_rows p)))
    c.in-Some.is c.in_ok-read.ensures.written in
    sym (plan_found (rows_of c.args.town.now) c.args.person c.args.index c.know_names.ensures c.requires small c.args.text.now (plan_rows c.in-Some.plan) is
    (sym c.plan_fits.ensures ∙ c.if-plan_fits.true))

pub returns : goal.returns
returns c =
    let small : c.args.index < 2 ^ 32 = omega (arith, c.ranges.index.fits) in
    let is = subst (λ (o : Option Plan). IfSome o (λ p. IsTextOf c.args.person c.args.index c.args.town.now.book c.args.text.now (plan_rows p)))
    c.in-Some.is c.in_ok-read.ensures.written in
    sym (plan_unfit (rows_of c.args.town.now) c.args.person c.args.index c.know_names.ensures c.requires small c.args.text.now (plan_rows c.in-Some.plan) is
    (sym c.plan_fits.ensures ∙ c.if-plan_fits.false))
