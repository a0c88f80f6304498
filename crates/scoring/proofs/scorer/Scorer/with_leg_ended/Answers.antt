use Rattle.std.proofs.Common.{ℤ, ◌+ℤ◌, ap, ◌∙◌}
use Rattle.scoring.{proofs.WorthLemmas.three_same, specs.Tables.leg_worth}
use Rattle.scoring.proofs.scorer.Scorer.with_leg_ended.Goals as goal

pub returns : goal.returns
returns c =
    let worth = c.leg_worth-worth.ensures.value ∙ ap (leg_worth c.args.tables.now.modes c.in-Leg.mode) c.saturating_sub.ensures in
    rw (c.in-Leg.is)
    (ap (λ (z : ℤ). record c.args.self { doing = c.args.next; sum = z })
    (three_same c.args.self.sum c.leg_worth-worth.result c.args.paid c.requires.small c.leg_worth-worth.ensures.within c.requires.paid_in
    ∙ ap (λ (z : ℤ). c.args.self.sum +ℤ (z +ℤ c.args.paid)) worth))
