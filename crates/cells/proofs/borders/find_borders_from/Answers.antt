use Rattle.std.proofs.Common.{◌+◌, sym, ap, ◌∙◌, subst, refl, Vec, Global}
use Rattle.cells.proofs.{Finding.found_skip, Finding.found_push, borders.find_borders_from.Goals.then-channel-q+then-channel-p+in_ok-push}
use Rattle.cells.proofs.borders.find_borders_from.Goals.{else-channel-q, else-channel-q-via-then-channel-q+else-channel-p, else-channel-q-via-else-channel-q}
use Rattle.cells.specs.{Ports.AreFound, declared.table.Border.Border}
use Rattle.cells.proofs.borders.find_borders_from.Goals as goal

pub loop-e-preserved : goal.loop-e-preserved
loop-e-preserved c = let f = c.loop-e.invariant in let cs = c.args.channels.now in let e = c.loop-e.e in elim c.if-channel-q.branch [
  | then-channel-q+then-channel-p+in_ok-push w ↦ subst (λ rs. AreFound cs c.args.p c.args.q (e + 1) rs)
      (sym (ap (λ (z : Vec Border Global). z.items) w.borders-is ∙ w.in_ok-push.ensures.items))
      (found_push cs c.args.p c.args.q e c.loop-e.borders.items f _ record {
        inside = c.loop-e-test.true;
        sender = w.if-channel-q.true;
        receiver = w.if-channel-p.true;
        late = refl;
        twin = refl;
      } refl refl)
  | else-channel-q w ↦ subst (λ rs. AreFound cs c.args.p c.args.q (e + 1) rs) (sym (ap (λ (z : Vec Border Global). z.items) w.borders-is))
      (found_skip cs c.args.p c.args.q e c.loop-e.borders.items f
      (elim w.else-channel-q.branch [
        | else-channel-q-via-then-channel-q+else-channel-p v ↦ λ _ y. v.if-channel-p.false y
        | else-channel-q-via-else-channel-q v ↦ λ y _. v.if-channel-q.false y
      ]))
]
