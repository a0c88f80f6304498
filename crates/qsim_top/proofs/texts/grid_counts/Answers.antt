use Rattle.std.proofs.Common.{ℕ, Vec, Global, append_assoc, ap, ◌∙◌}
use Rattle.qsim_top.specs.Texts.{grid_counts}
use Rattle.qsim_top.proofs.texts.grid_counts.Goals as goal

pub returns : goal.returns
unfolding grid_counts
returns c = simp append_assoc (ap (λ (v : Vec ℕ Global). v.items) c.into_bytes.ensures.value ∙ c.in_ok-line.ensures.ok)
