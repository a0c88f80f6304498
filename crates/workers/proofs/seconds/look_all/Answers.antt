use Rattle.std.proofs.Common.{arith, ◌∙◌, sym, subst}
use mathlib.Core.Logic.{dite}
use native.Mathlib.Decide.{ℕ_discrete}
use Rattle.cells.{proofs.Uses.same_trans, specs.Ports.IsUnread}
use Rattle.workers.proofs.seconds.look_all.Goals as goal

pub loop-k-preserved : goal.loop-k-preserved
loop-k-preserved g c = let i = c.loop-k.invariant in let e = c.look_at.ensures in let k = c.loop-k.k in
    let w = e.ready c.if-not-look_at.false in (
      e.port,
      same_trans c.args.port.now c.loop-k.port c.look_at.new.port i.1 e.same,
      e.untouched,
      (λ j lj. dite (ℕ_discrete j k) (λ is. subst (λ x. IsUnread c.look_at.new.port x) (sym is) w.1)
          (λ ne. w.2 j (i.3 j (omega arith)))),
      w.0 ∙ i.4,
    )
