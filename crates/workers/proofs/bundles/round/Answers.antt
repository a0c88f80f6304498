use Rattle.std.proofs.Common.{◌∙◌, sym, ap, inl, inr, arith}
use Rattle.workers.proofs.{Rounds.step, bundles.round.Goals.in-Ended, bundles.round.Goals.in-Stopped, bundles.round.Goals.in-Waited}
use Rattle.workers.{proofs.bundles.round.Goals.in-Moved, specs.Members.one_if}
use Rattle.workers.specs.declared.members.Turn.TheVariants.{Ended, Stopped, Waited, Moved}
use Rattle.workers.proofs.bundles.round.Goals as goal

pub loop-k-preserved : goal.loop-k-preserved
loop-k-preserved g c =
    let until = c.args.until in
    let borders = g.T.Part.borders in
    let nothing = g.T.Part.nothing in
    let see = g.T.Part.see in
    let stands = g.T.Part.stands in
    let spent = g.T.Part.spent in
    let right = g.T.Part.right in
    let run = c.args.run.now in
    let b = c.args.board.now in
    let k = c.loop-k.k in
    let i = c.loop-k.invariant in
    let lt = c.loop-k-test.true in
    let x = c.turn.new.member in
    let y = c.index-members-k.result in
    let t = c.turn.ensures in
    let later = t.goes.later in
    let al = c.loop-k.auto in
    elim c.match-turn.branch [
      | in-Ended w ↦ step until borders nothing see stands spent right run b k c.loop-k.stopped c.loop-k.moved c.loop-k.waited
          c.match-turn.stopped
          c.match-turn.moved c.match-turn.waited c.args.members.now c.loop-k.members x y Ended i (omega arith) t.member t.goes
          w.in-Ended.ensures.turned (λ h. w.stopped-is ∙ h) (λ h. w.moved-is ∙ h) (λ h. w.waited-is ∙ h) tt
          (λ h. inl (sym w.stopped-is ∙ h))
          (let e = ap one_if w.moved-is in omega arith)
      | in-Stopped w ↦ step until borders nothing see stands spent right run b k c.loop-k.stopped c.loop-k.moved c.loop-k.waited
          c.match-turn.stopped
          c.match-turn.moved c.match-turn.waited c.args.members.now c.loop-k.members x y Stopped i (omega arith) t.member t.goes
          w.in-Stopped.ensures.turned (λ h. w.stopped-is) (λ h. w.moved-is ∙ h) (λ h. w.waited-is ∙ h) w.stopped-is
          (λ h. inr w.in-Stopped.ensures.turned.0)
          (let e = ap one_if w.moved-is in omega arith)
      | in-Waited w ↦ step until borders nothing see stands spent right run b k c.loop-k.stopped c.loop-k.moved c.loop-k.waited
          c.match-turn.stopped
          c.match-turn.moved c.match-turn.waited c.args.members.now c.loop-k.members x y Waited i (omega arith) t.member t.goes
          w.in-Waited.ensures.turned (λ h. w.stopped-is ∙ h) (λ h. w.moved-is ∙ h) (λ h. w.waited-is) w.waited-is
          (λ h. inl (sym w.stopped-is ∙ h))
          (let e = ap one_if w.moved-is in omega arith)
      | in-Moved w ↦ step until borders nothing see stands spent right run b k c.loop-k.stopped c.loop-k.moved c.loop-k.waited
          c.match-turn.stopped
          c.match-turn.moved c.match-turn.waited c.args.members.now c.loop-k.members x y Moved i (omega arith) t.member t.goes
          w.in-Moved.ensures.turned (λ h. w.stopped-is ∙ h) (λ h. w.moved-is) (λ h. w.waited-is ∙ h) w.moved-is
          (λ h. inl (sym w.stopped-is ∙ h))
          (let e = ap one_if w.moved-is in let d = w.in-Moved.ensures.turned.1 in
          let within = (t.member.rests w.in-Moved.ensures.turned.0).within in omega arith)
    ]
