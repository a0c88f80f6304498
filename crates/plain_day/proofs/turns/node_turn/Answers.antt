use Rattle.traffic.proofs.Common.{◌∙◌, ap, sym, World}
use Rattle.plain_day.proofs.NodeTurns.{quiet_is}
use Rattle.plain_day.proofs.turns.node_turn.Goals as goal

pub returns-then-not-is_awaited : goal.returns-then-not-is_awaited
returns-then-not-is_awaited c =
    c.new.ensures.items
    ∙ sym (quiet_is c.args.day.now c.args.second c.args.node c.args.world.now c.deref.result.now (c.deref.ensures.value ∙ ap (λ (W : World). W.rows) c.world.view_is)
    (sym c.is_awaited.ensures ∙ c.if-not-is_awaited.true))
