use Rattle.std.proofs.Common.{ℕ, List, ◌∙◌, ap, sym, subst, []}
use Rattle.std.specs.List.{Contains}
use Rattle.calendar.{proofs.Hung.woken_is, specs.Waking.woken}
use Rattle.calendar.proofs.wake_ups.Wakes.is_quiet.Goals as goal

pub returns : goal.returns
returns c = λ quiet.
    let due = c.self.inside.due.items in
    let t = c.args.second in
    sym (ap (woken t) c.self.view_is)
    ∙ sym (woken_is due c.self.inside.calendar t [] c.self.invariant tt (λ n hangs.
    subst (λ (xs : List ℕ). Contains xs n) (c.is_quiet.ensures quiet) hangs))
