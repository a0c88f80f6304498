use Rattle.std.proofs.Common.{◌∙◌, ap}
use Rattle.std.specs.Prelude.{ℕ, false, ◌==◌, if◌then◌else◌}
use Rattle.number_sets.specs.Sets.{has}
use Rattle.number_sets.proofs.Bits.{removed}
use Rattle.number_sets.proofs.number_set.NumberSet.remove.Goals as goal

pub returns : goal.returns
returns c = λ k.
    removed c.self.inside.bits c.args.number k c.requires c.self.invariant
    ∙ ap (λ (bits : ℕ). if k == c.args.number then false else has bits k) c.self.view_is
