use Rattle.traffic.proofs.Common.{ap, ◌+◌, act_in, leg_in, plan_rows}
use Rattle.rows.specs.declared.plan.Act.{Act}
use Rattle.person_moves.proofs.PersonPlans.{waits_are}
use Rattle.person_moves.proofs.waiting.waiter_in.Goals as goal

pub returns-clause-waits : goal.returns-clause-waits
returns-clause-waits c =
    waits_are c.args.number (leg_in (plan_rows c.args.plan.now) c.args.element) (act_in (plan_rows c.args.plan.now) (c.args.element + 2)) c.act_after-kind.result.kind c.args.stop
    c.args.since c.waiter_at.result (ap (λ (a : Act). a.kind) c.act_after-kind.ensures) c.waiter_at.ensures
