use Rattle.std.proofs.Common.{◌++◌, ◌∙◌, sym, ap, List, ℕ, append-nil}
use Rattle.plan_text.proofs.Pushing.{all_written}
use Rattle.plan_text.proofs.writing.push_elements.Goals as goal

pub returns : goal.returns
returns c =
    let done = all_written c.args.book.now c.args.person c.args.index c.args.acts.now c.args.legs.now c.loop-place.place c.loop-place-test.false in
    sym (append-nil c.loop-place.text.items) ∙ ap (λ (l : List ℕ). c.loop-place.text.items ++ l) (sym done) ∙ c.loop-place.invariant
