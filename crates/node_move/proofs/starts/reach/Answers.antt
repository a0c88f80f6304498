use Rattle.std.proofs.Common.{List, ℕ, ◌∙◌, ap, get_or}
use Rattle.node_move.proofs.Reaching.{reached}
use Rattle.node_move.proofs.starts.reach.Goals as goal

pub reached-preserved : goal.reached-preserved
reached-preserved c = λ r.
    ap (λ (xs : List ℕ). get_or xs r 0) c.in_ok-push.ensures.items ∙ reached c.reached.starts.items r ∙ c.reached.invariant r
