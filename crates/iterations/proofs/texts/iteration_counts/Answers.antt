use Rattle.std.proofs.Common.{◌≡◌, ℕ, ℤ, Vec, Global, append_assoc, ap, ◌∙◌, subst}
use Rattle.day_scores.proofs.LinesWritten.{fits-code}
use Rattle.iterations.specs.Texts.{iteration_counts}
use Rattle.iterations.proofs.texts.iteration_counts.Goals as goal

pub returns : goal.returns
unfolding iteration_counts
returns c =
    let args = c.args in
    subst (λ (sum : ℤ). c.into_bytes.result.items ≡ iteration_counts args.iteration args.events args.stuck sum) (fits-code args.sum c.ranges.sum)
    (simp append_assoc (ap (λ (v : Vec ℕ Global). v.items) c.into_bytes.ensures.value ∙ c.in_ok-line.ensures.ok))
