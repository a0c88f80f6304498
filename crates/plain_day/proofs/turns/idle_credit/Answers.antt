use Rattle.traffic.proofs.Common.{◌∙◌, ap, sym, World}
use Rattle.plain_day.proofs.LinkTurns.{idle_is}
use Rattle.plain_day.proofs.turns.idle_credit.Goals as goal

pub returns-clause-idle : goal.returns-clause-idle
returns-clause-idle c =
    λ t.
    idle_is c.args.day.now t c.args.link c.args.world.now c.deref.result.now c.gain_of-gain.result c.credit_of-before.result c.raised_credit.result
    (c.deref.ensures.value ∙ ap (λ (W : World). W.rows) c.world.view_is) (sym c.is_used.ensures ∙ c.if-is_used.false) c.gain_of-gain.ensures.value c.credit_of-before.ensures c.raised_credit.ensures
