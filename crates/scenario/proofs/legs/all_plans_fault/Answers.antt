use Rattle.scenario.proofs.Common.{◌≡◌, List, ℕ, sym, ◌∙◌, length, subst, arith, ◌<◌, ◌^◌, All, leg_checks_of}
use Rattle.scenario.proofs.Firsts.{fault_here, fault_behind, fault_none}
use Rattle.std.proofs.lemmas.List.Elements.{All-drop}
use Rattle.scenario.proofs.legs.all_plans_fault.Goals as goal

pub loop-own-preserved : goal.loop-own-preserved
loop-own-preserved c =
    let args = c.args in
    record {
      same = fault_behind (leg_checks_of args.numbering.now args.schedule.now) args.rows.now c.loop-own.rest.now c.behind-rest.result.now args.plans.now c.loop-own.own-index c.count_of.result c.own-item.result
          c.own_fault-fault.result c.loop-own.invariant.same c.loop-own-test.true c.own-item.is c.own_fault-fault.ensures (sym c.is_some.ensures ∙ c.if-is_some.false) c.count_of.ensures c.behind-rest.ensures;
      early = subst (λ (rows : List ℕ). All (λ row. row < 2 ^ 30) rows) (sym c.behind-rest.ensures) (All-drop (λ row. row < 2 ^ 30) c.count_of.result c.loop-own.rest.now c.loop-own.invariant.early);
    }

pub returns-then-is_some : goal.returns-then-is_some
returns-then-is_some c =
    let args = c.args in
    fault_here (leg_checks_of args.numbering.now args.schedule.now) args.rows.now c.loop-own.rest.now args.plans.now c.loop-own.own-index c.own-item.result
    c.own_fault-fault.result c.loop-own.invariant.same c.loop-own-test.true c.own-item.is c.own_fault-fault.ensures (sym c.is_some.ensures ∙ c.if-is_some.true)

pub returns : goal.returns
returns c =
    let args = c.args in
    let end : c.loop-own.own-index ≡ length args.plans.now = omega arith in
    fault_none (leg_checks_of args.numbering.now args.schedule.now) args.rows.now c.loop-own.rest.now args.plans.now c.loop-own.own-index c.loop-own.invariant.same end
