use Rattle.scenario.proofs.Common.{◌≡◌, List, ℕ, sym, ◌∙◌, length, subst, arith, ◌<◌, ◌^◌, All, leg_checks_of}
use Rattle.scenario.proofs.Firsts.{plan_here, plan_behind, plan_none}
use Rattle.std.proofs.lemmas.List.Elements.{All-drop}
use Rattle.scenario.proofs.legs.plans_fault.Goals as goal

pub loop-plan-preserved : goal.loop-plan-preserved
loop-plan-preserved c =
    let args = c.args in
    record {
      same = plan_behind (leg_checks_of args.numbering.now args.schedule.now) args.rows.now c.loop-plan.rest.now c.behind-rest.result.now args.plans.now c.loop-plan.plan-index c.first_row.result c.plan-item.result
          c.plan_fault-fault.result c.loop-plan.invariant.same c.loop-plan-test.true c.plan-item.is c.first_row.ensures.first c.plan_fault-fault.ensures (sym c.is_some.ensures ∙ c.if-is_some.false) c.behind-rest.ensures;
      early = subst (λ (rows : List ℕ). All (λ row. row < 2 ^ 30) rows) (sym c.behind-rest.ensures) (All-drop (λ row. row < 2 ^ 30) 1 c.loop-plan.rest.now c.loop-plan.invariant.early);
    }

pub returns-then-is_some : goal.returns-then-is_some
returns-then-is_some c =
    let args = c.args in
    plan_here (leg_checks_of args.numbering.now args.schedule.now) args.rows.now c.loop-plan.rest.now args.plans.now c.loop-plan.plan-index c.first_row.result c.plan-item.result
    c.plan_fault-fault.result c.loop-plan.invariant.same c.loop-plan-test.true c.plan-item.is c.first_row.ensures.first c.plan_fault-fault.ensures (sym c.is_some.ensures ∙ c.if-is_some.true)

pub returns : goal.returns
returns c =
    let args = c.args in
    let end : c.loop-plan.plan-index ≡ length args.plans.now = omega arith in
    plan_none (leg_checks_of args.numbering.now args.schedule.now) args.rows.now c.loop-plan.rest.now args.plans.now c.loop-plan.plan-index c.loop-plan.invariant.same end
