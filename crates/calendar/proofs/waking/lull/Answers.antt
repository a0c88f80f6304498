use Rattle.std.proofs.Common.{◌∙◌, ℕ, suc, get_or, ap, sym, arith, add-one, drop}
use Rattle.std.specs.Prelude.{Option, None, set}
use Rattle.calendar.proofs.{Hung.asleep_step, Hung.asleep_done, Hung.set_past, waking.lull.Goals.then-place-len, waking.lull.Goals.else-place-len}
use Rattle.calendar.specs.Waking.{asleep}
use Rattle.calendar.proofs.waking.lull.Goals as goal

pub loop-number-preserved : goal.loop-number-preserved
loop-number-preserved c =
    let ns = c.args.numbers.now in
    let i = c.loop-number.number-index in
    let due = c.loop-number.due.items in
    let s = asleep_step ns i due c.loop-number-test.true in
    ap (λ (m : ℕ). asleep (drop m ns) c.if-place-len.due.items) (add-one i)
    ∙ elim c.if-place-len.branch [
      | then-place-len w ↦ ap (λ v. asleep (drop (suc i) ns) v.items) w.due-is
          ∙ ap (λ (x : Option ℕ). asleep (drop (suc i) ns) (set due (get_or ns i 0) x)) w.none.ensures ∙ sym s ∙ c.loop-number.invariant
      | else-place-len w ↦
          ap (λ v. asleep (drop (suc i) ns) v.items) w.due-is
          ∙ sym (ap (asleep (drop (suc i) ns)) (set_past due (get_or ns i 0) None (omega arith))) ∙ sym s ∙ c.loop-number.invariant
    ]

pub returns : goal.returns
returns c =
    sym (asleep_done c.args.numbers.now c.loop-number.number-index c.loop-number.due.items c.loop-number-test.false) ∙ c.loop-number.invariant
