use Rattle.std.proofs.Common.{arith, ap}
use Rattle.step_core.specs.Nets.{Net}
use Rattle.ordered_days.proofs.orders.in_order.Goals as goal

pub bring_to_end-requires-clause-some : goal.bring_to_end-requires-clause-some
bring_to_end-requires-clause-some g c =
    let run = c.args.run.now in
    let many = (g.T.DayPart.owner run).some in
    omega (arith, many, ap (λ (N : Net). N.parts) (g.met.T.DayPart.nets run))
