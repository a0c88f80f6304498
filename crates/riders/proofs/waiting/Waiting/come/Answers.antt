use Rattle.std.proofs.Common.{subst, sym, List}
use Rattle.traffic.specs.declared.world.Waiter.{Waiter}
use Rattle.riders.{proofs.Lines.one_more, specs.Waiting.AreWaiting}
use Rattle.riders.proofs.waiting.Waiting.come.Goals as goal

pub invariant_of-self-2 : goal.invariant_of-self-2
invariant_of-self-2 c =
    subst (λ (ws : List Waiter). AreWaiting ws) (sym c.in_ok-push.ensures.items)
    (one_more c.self.inside.rows.items c.args.waiter c.self.invariant (rw (← c.self.view_is) at c.requires.other)
    (rw (← c.self.view_is) at c.requires.later))
